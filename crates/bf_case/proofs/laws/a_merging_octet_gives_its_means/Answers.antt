use Rattle.bf_case.proofs.RegridCells.{sampled_leaf-parent}
use Rattle.bf_case.proofs.laws.a_merging_octet_gives_its_means.Goals as goal

pub returns : goal.returns
returns c = sampled_leaf-parent
