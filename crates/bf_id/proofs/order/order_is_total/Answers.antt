use Rattle.bf_id.proofs.Rising.{id_cmp_total, id_cmp-exact}
use Rattle.bf_id.proofs.order.order_is_total.Goals as goal

pub returns-clause-total : goal.returns-clause-total
returns-clause-total c = id_cmp_total

pub returns-clause-exact : goal.returns-clause-exact
returns-clause-exact c = id_cmp-exact
