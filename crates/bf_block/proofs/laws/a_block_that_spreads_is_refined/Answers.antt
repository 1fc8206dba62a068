use Rattle.bf_block.proofs.Wishing.{refined_by_spread}
use Rattle.bf_block.proofs.laws.a_block_that_spreads_is_refined.Goals as goal

pub returns : goal.returns
returns c = refined_by_spread
