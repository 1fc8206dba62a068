use Rattle.std.proofs.Common.{ap, ◌∙◌, arith}
use Rattle.bf_lemmas.proofs.Passes.{passed_start}
use Rattle.bf_core.proofs.StateLemmas.{kept_filled}
use Rattle.bf_core.proofs.core_state.CoreState.filled_members.Goals as goal

pub loop-rank-init : goal.loop-rank-init
loop-rank-init c = ap (λ s. s.epoch.members) c.self.view_is ∙ passed_start _ _

pub returns : goal.returns
returns c = kept_filled c.args.self.now _ _ _ (omega arith) c.loop-rank.invariant (ap (λ s. s.epoch.members) c.self.view_is) c.count.ensures.below
