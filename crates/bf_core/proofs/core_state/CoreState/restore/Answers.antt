use Rattle.std.proofs.Common.{◌∙◌}
use Rattle.bf_core.proofs.StateLemmas.{restored_is}
use Rattle.bf_core.proofs.core_state.CoreState.restore.Goals as goal

pub returns : goal.returns
returns c =
    restored_is _ _ _ _ (c.self.view_is ∙ c.dissolve.ensures) c.after_restore-self-inside.ensures c.live_members-live.ensures
