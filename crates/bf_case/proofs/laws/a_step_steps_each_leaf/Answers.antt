use Rattle.bf_case.proofs.LookupLemmas.{cells_at-stencil}
use Rattle.bf_case.proofs.laws.a_step_steps_each_leaf.Goals as goal

pub returns : goal.returns
returns c = cells_at-stencil
