use Rattle.bf_snap.proofs.ChangeSteps.{active_was_spare}
use Rattle.bf_snap.proofs.laws.the_active_side_was_spare_at_the_last_swap.Goals as goal

pub returns : goal.returns
returns g c = λ sides before later none. active_was_spare sides before later none
