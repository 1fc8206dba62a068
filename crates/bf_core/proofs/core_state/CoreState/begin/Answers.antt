use Rattle.bf_core.proofs.StateLemmas.{opening_is, opening_known}
use Rattle.bf_core.proofs.core_state.CoreState.begin.Goals as goal

pub invariant_of-result : goal.invariant_of-result
invariant_of-result c =
    opening_known _ _ _ _ _ _ _ _ _ c.requires.some c.requires.few c.in_ok-roll.ensures (c.in_ok-queues.ensures.items_if_clones_equal (λ y same. same))

pub returns : goal.returns
returns c =
    opening_is _ _ _ _ _ _ _ _ _ c.in_ok-roll.ensures (c.in_ok-queues.ensures.items_if_clones_equal (λ y same. same)) c.first.ensures
