-- The law is the lemma.
use Rattle.bf_id.proofs.Tilings.{leaves_part}
use Rattle.bf_id.proofs.laws.no_leaf_lies_below_another.Goals as goal

pub returns : goal.returns
returns c = leaves_part
