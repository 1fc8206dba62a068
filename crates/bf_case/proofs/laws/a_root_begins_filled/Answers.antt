use Rattle.bf_case.proofs.LookupLemmas.{cells_at-initial}
use Rattle.bf_case.proofs.laws.a_root_begins_filled.Goals as goal

pub returns : goal.returns
returns c = cells_at-initial
