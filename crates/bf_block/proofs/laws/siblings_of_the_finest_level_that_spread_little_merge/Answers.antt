use Rattle.bf_block.proofs.Wishing.{sibling_regrids}
use Rattle.bf_block.proofs.laws.siblings_of_the_finest_level_that_spread_little_merge.Goals as goal

pub returns : goal.returns
returns c = λ case time parent blocks are models does finest calm. λ k d within.
    sibling_regrids case time parent blocks are models d does finest calm k within
