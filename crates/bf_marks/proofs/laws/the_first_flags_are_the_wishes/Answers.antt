use Rattle.bf_marks.proofs.TargetLemmas.{first_coarser, first_refined}
use Rattle.bf_marks.proofs.laws.the_first_flags_are_the_wishes.Goals as goal

pub returns : goal.returns
returns c = record { refined = first_refined; coarser = first_coarser }
