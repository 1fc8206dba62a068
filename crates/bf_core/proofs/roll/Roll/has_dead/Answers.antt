use Rattle.bf_core.specs.Stages.{is_dead}
use Rattle.bf_core.proofs.RollLemmas.{any_counted}
use Rattle.bf_core.proofs.roll.Roll.has_dead.Goals as goal

pub returns : goal.returns
returns c = any_counted (λ s. is_dead s.stage) _ _ _ c.self.invariant.dead_count c.self.view_is
