use Rattle.bf_snap.proofs.ChangeSteps.{active_stays}
use Rattle.bf_snap.proofs.laws.only_a_swap_changes_the_active_side.Goals as goal

pub returns : goal.returns
returns g c = λ sides changes none. active_stays sides changes none
