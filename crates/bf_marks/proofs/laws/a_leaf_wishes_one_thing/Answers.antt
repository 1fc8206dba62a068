use Rattle.bf_marks.proofs.TargetLemmas.{coarsen_is, refine_is}
use Rattle.bf_marks.proofs.laws.a_leaf_wishes_one_thing.Goals as goal

pub returns : goal.returns
returns c = record { refine = refine_is; coarsen = coarsen_is }
