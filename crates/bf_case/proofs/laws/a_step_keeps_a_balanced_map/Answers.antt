use Rattle.bf_case.proofs.ModelLemmas.{balanced-stencil}
use Rattle.bf_case.proofs.laws.a_step_keeps_a_balanced_map.Goals as goal

pub returns : goal.returns
returns c = balanced-stencil
