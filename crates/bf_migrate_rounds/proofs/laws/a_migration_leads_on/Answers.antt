use Rattle.bf_migrate_rounds.proofs.RoundLemmas.{migration_leads}
use Rattle.bf_migrate_rounds.proofs.laws.a_migration_leads_on.Goals as goal

pub returns : goal.returns
returns s = λ c time owner later members runs does rise owned owned_later. migration_leads c time runs does owner later members rise owned owned_later
