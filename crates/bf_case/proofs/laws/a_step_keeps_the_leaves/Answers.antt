use Rattle.bf_case.proofs.MapLemmas.{ids_of-stencil, IsMap-stencil}
use Rattle.bf_case.proofs.laws.a_step_keeps_the_leaves.Goals as goal

pub returns-clause-ids : goal.returns-clause-ids
returns-clause-ids c = ids_of-stencil

pub returns-clause-map : goal.returns-clause-map
returns-clause-map c = IsMap-stencil
