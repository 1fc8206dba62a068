use Rattle.bf_core.specs.Stages.{goes_on}
use Rattle.bf_core.proofs.RollLemmas.{any_counted}
use Rattle.bf_core.proofs.roll.Roll.has_going.Goals as goal

pub returns : goal.returns
returns c = any_counted (λ s. goes_on s.stage) _ _ _ c.self.invariant.going_count c.self.view_is
