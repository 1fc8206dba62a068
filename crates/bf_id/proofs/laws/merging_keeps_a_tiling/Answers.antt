-- The law is the lemma.
use Rattle.bf_id.proofs.Tilings.{merged_Tiles}
use Rattle.bf_id.proofs.laws.merging_keeps_a_tiling.Goals as goal

pub returns : goal.returns
returns c = merged_Tiles
