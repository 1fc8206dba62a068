use Rattle.bf_snap.proofs.ChangeSteps.{regained_new}
use Rattle.bf_snap.proofs.laws.after_a_swap_a_restore_gives_the_new_snapshot.Goals as goal

pub returns : goal.returns
returns g c = λ kind leaves are time homes live shift home_of rank rise is_home is_live housed sides before later none new. regained_new kind leaves are time homes live shift home_of rank rise is_home is_live housed sides before later none new
