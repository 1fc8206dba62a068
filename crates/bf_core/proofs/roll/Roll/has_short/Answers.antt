use Rattle.bf_core.specs.Stages.{is_short}
use Rattle.bf_core.proofs.RollLemmas.{any_counted}
use Rattle.bf_core.proofs.roll.Roll.has_short.Goals as goal

pub returns : goal.returns
returns c = any_counted (λ s. is_short s.stage) _ _ _ c.self.invariant.short_count c.self.view_is
