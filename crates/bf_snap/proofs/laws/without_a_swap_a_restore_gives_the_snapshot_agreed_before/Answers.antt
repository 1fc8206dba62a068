use Rattle.bf_snap.proofs.ChangeSteps.{regained_stays}
use Rattle.bf_snap.proofs.laws.without_a_swap_a_restore_gives_the_snapshot_agreed_before.Goals as goal

pub returns : goal.returns
returns g c = λ kind sides changes shift live none. regained_stays kind sides changes shift live none
