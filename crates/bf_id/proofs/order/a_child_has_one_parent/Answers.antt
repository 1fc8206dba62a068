use Rattle.bf_id.proofs.IdLemmas.{child_of-same}
use Rattle.bf_id.proofs.order.a_child_has_one_parent.Goals as goal

pub returns : goal.returns
returns c = child_of-same
