use Rattle.std.proofs.Common.{◌≡◌, ◌∙◌, rules}
use Rattle.std.proofs.lemmas.List.{with_items_is}
use Rattle.bf_plain.proofs.marks.with_reached.Goals as goal

pub returns-clause-marks : goal.returns-clause-marks
returns-clause-marks c =
    let copy : c.in_ok-after.after.items ≡ c.args.marks.now = search (rules, c.in_ok-after.ensures) in
    λ p source begun from.
    with_items_is c.in_ok-after.after c.mark_reached.new.marks (c.mark_reached.auto.marks ∙ c.deref_mut.ensures.len)
    ∙ c.mark_reached.ensures.marks p source (c.deref_mut.ensures.value ∙ copy ∙ begun) from
