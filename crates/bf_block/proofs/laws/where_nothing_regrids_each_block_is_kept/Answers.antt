use Rattle.bf_block.proofs.BlockLemmas.{kept_id}
use Rattle.bf_block.proofs.laws.where_nothing_regrids_each_block_is_kept.Goals as goal

pub returns : goal.returns
returns c = kept_id
