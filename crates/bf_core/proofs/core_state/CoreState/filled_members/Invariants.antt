use Rattle.std.proofs.Common.{◌≡◌}
use Rattle.bf_core.specs.Stages.{is_filled}
use Rattle.bf_core.specs.States.{stage}
use Rattle.bf_lemmas.proofs.Passes.{passed_below}
use Rattle.bf_core.proofs.core_state.CoreState.filled_members.Given as goal

abbrev pub invariant-loop-rank : goal.invariant-loop-rank
invariant-loop-rank l = l.filled ≡ passed_below (λ rank. is_filled (stage l.self rank)) l.self.epoch.members l.rank
