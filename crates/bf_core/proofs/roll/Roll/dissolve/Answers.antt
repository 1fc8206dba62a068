use Rattle.std.proofs.Common.{ap, ◌∙◌}
use Rattle.std.proofs.lemmas.List.{with_items_is}
use Rattle.bf_core.specs.Rolls.{dissolved_in}
use Rattle.bf_core.proofs.RollLemmas.{dissolved_counted}
use Rattle.bf_core.proofs.roll.Roll.dissolve.Goals as goal

pub invariant_of-self : goal.invariant_of-self
invariant_of-self c =
    dissolved_counted _ _ _ _ _ c.self.invariant _
    (with_items_is c.self.inside.standings _ (c.dissolve_each.auto.standings ∙ c.deref_mut.ensures.len)
    ∙ c.dissolve_each.ensures
    ∙ ap dissolved_in c.deref_mut.ensures.value)
