use Rattle.bf_migrate_rounds.proofs.TellLemmas.{told_back, told_there}
use Rattle.bf_migrate_rounds.proofs.laws.a_migration_message_holds_the_cargo_for_the_receivers_proxies.Goals as goal

pub returns : goal.returns
returns s = λ c time owner later from to cargo runs does.
    (told_there c time runs does owner later from to cargo, told_back c time runs does owner later from to cargo)
