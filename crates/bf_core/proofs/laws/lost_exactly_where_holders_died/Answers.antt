use Rattle.bf_core.proofs.LawLemmas.{lost_where}
use Rattle.bf_core.proofs.laws.lost_exactly_where_holders_died.Goals as goal

pub returns : goal.returns
returns c = lost_where
