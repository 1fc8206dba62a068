use Rattle.bf_core.specs.Stages.{is_awaited}
use Rattle.bf_core.proofs.RollLemmas.{any_counted}
use Rattle.bf_core.proofs.roll.Roll.has_awaited.Goals as goal

pub returns : goal.returns
returns c = any_counted (λ s. is_awaited s.stage) _ _ _ c.self.invariant.awaited_count c.self.view_is
