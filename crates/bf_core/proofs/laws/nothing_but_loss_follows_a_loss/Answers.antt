use Rattle.bf_core.proofs.LawLemmas.{only_loses}
use Rattle.bf_core.proofs.laws.nothing_but_loss_follows_a_loss.Goals as goal

pub returns : goal.returns
returns c = only_loses c.nothing_is_lost_where_holders_live.ensures
