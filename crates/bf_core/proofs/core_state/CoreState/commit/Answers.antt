use Rattle.std.proofs.Common.{◌∙◌}
use Rattle.bf_core.proofs.StateLemmas.{committed_is}
use Rattle.bf_core.proofs.core_state.CoreState.commit.Goals as goal

pub returns : goal.returns
returns c =
    committed_is _ _ _ _ (c.self.view_is ∙ c.dissolve.ensures) c.after_commit-self-inside.ensures c.filled_members-stored.ensures
