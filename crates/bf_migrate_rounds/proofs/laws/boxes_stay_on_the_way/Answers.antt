use Rattle.bf_migrate_rounds.proofs.BoxLemmas.{boxes_stay}
use Rattle.bf_migrate_rounds.proofs.laws.boxes_stay_on_the_way.Goals as goal

pub returns : goal.returns
returns s = λ c time owner later members test runs does rise owned owned_later halved.
    boxes_stay c time runs does owner later members rise owned owned_later test halved
