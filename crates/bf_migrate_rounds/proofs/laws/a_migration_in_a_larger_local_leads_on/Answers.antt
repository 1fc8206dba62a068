use Rattle.bf_migrate_rounds.proofs.ViewLemmas.{view_leads}
use Rattle.bf_migrate_rounds.proofs.laws.a_migration_in_a_larger_local_leads_on.Goals as goal

pub returns : goal.returns
returns g s = λ view c time owner later members with with_after is_view leads. view_leads view c time owner later members with with_after is_view leads
