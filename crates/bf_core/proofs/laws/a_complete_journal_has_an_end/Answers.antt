use Rattle.bf_core.proofs.EndLemmas.{has_end}
use Rattle.bf_core.proofs.laws.a_complete_journal_has_an_end.Goals as goal

pub returns : goal.returns
returns c = has_end c.nothing_is_lost_where_holders_live.ensures
