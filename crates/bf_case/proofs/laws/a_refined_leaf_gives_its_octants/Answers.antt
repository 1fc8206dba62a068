use Rattle.bf_case.proofs.RegridCells.{sampled_leaf-child}
use Rattle.bf_case.proofs.laws.a_refined_leaf_gives_its_octants.Goals as goal

pub returns : goal.returns
returns c = sampled_leaf-child
