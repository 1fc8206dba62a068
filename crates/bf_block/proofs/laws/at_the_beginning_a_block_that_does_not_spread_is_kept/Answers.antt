use Rattle.bf_block.proofs.Wishing.{kept_by_spread}
use Rattle.bf_block.proofs.laws.at_the_beginning_a_block_that_does_not_spread_is_kept.Goals as goal

pub returns : goal.returns
returns c = kept_by_spread
