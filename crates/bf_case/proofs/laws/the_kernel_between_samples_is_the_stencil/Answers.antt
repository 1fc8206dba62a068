use Rattle.bf_case.proofs.BlockSteps.{leaf_steps}
use Rattle.bf_case.proofs.laws.the_kernel_between_samples_is_the_stencil.Goals as goal

pub returns : goal.returns
returns c = leaf_steps
