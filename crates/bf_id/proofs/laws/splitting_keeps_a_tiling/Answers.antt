-- The law is the lemma.
use Rattle.bf_id.proofs.Tilings.{split_Tiles}
use Rattle.bf_id.proofs.laws.splitting_keeps_a_tiling.Goals as goal

pub returns : goal.returns
returns c = split_Tiles
