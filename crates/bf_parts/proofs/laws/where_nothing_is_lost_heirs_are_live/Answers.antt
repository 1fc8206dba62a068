use Rattle.bf_parts.specs.LossLaws.{heirs_held}
use Rattle.bf_parts.proofs.laws.where_nothing_is_lost_heirs_are_live.Goals as goal

pub returns : goal.returns
returns g c = λ leaves homes live shift home_of rise live_rise among none housed. heirs_held leaves homes live shift home_of rise live_rise among none housed
