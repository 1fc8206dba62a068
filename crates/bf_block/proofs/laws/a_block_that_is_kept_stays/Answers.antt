use Rattle.bf_block.proofs.Wishing.{kept_stays}
use Rattle.bf_block.proofs.laws.a_block_that_is_kept_stays.Goals as goal

pub returns : goal.returns
returns c = kept_stays
