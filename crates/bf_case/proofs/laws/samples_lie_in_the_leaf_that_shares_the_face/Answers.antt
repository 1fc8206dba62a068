use Rattle.bf_case.proofs.FaceLemmas.{coarser_shares, finer_shares, same_shares}
use Rattle.bf_case.proofs.laws.samples_lie_in_the_leaf_that_shares_the_face.Goals as goal

pub returns-clause-same : goal.returns-clause-same
returns-clause-same c = same_shares

pub returns-clause-coarser : goal.returns-clause-coarser
returns-clause-coarser c = coarser_shares

pub returns-clause-finer : goal.returns-clause-finer
returns-clause-finer c = finer_shares
