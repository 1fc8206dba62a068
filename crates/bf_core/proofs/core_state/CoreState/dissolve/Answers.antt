use Rattle.std.proofs.Common.{ap, ◌∙◌, length, replicate}
use Rattle.std.proofs.lemmas.List.{with_items_is}
use Rattle.bf_core.proofs.StateLemmas.{dissolved_is}
use Rattle.bf_core.proofs.core_state.CoreState.dissolve.Goals as goal

pub returns : goal.returns
returns c =
    dissolved_is _ _ _ _ c.self.view_is c.dissolve.ensures
    (with_items_is c.self.inside.queues _ (c.fill.ensures.len ∙ c.as_mut_slice.ensures.len)
    ∙ c.fill.ensures.after (λ y same. same)
    ∙ ap (λ xs. replicate (length xs) 0) c.as_mut_slice.ensures.value)
