use Rattle.std.proofs.Common.{◌≡◌, map, sym, ap, ◌∙◌, refl, arith, ℕ}
use Rattle.std.specs.Prelude.{filter}
use Rattle.std.specs.List.{range_with_len}
use Rattle.bf_beads.specs.Row.{is_beside, link_to, home_in}
use Rattle.bf_lemmas.proofs.Lists.{taken_more, passed_more}
use Rattle.bf_beads.proofs.OpeningSteps.{links_are}
use Rattle.bf_beads.proofs.opening.first_links.Goals.{then-is_beside+in_ok-push, else-is_beside}
use Rattle.bf_beads.proofs.opening.first_links.Goals as goal

pub loop-other-preserved : goal.loop-other-preserved
loop-other-preserved c = elim c.if-is_beside.branch [
  | then-is_beside+in_ok-push w ↦ taken_more (link_to (home_in c.args.ranks)) (is_beside c.args.number) c.loop-other.other _ c.loop-other.links.items c.if-is_beside.links.items c.loop-other.invariant
      (sym w.if-is_beside.ensures) refl (ap (λ v. v.items) w.links-is ∙ w.in_ok-push.ensures.items)
  | else-is_beside w ↦ passed_more (link_to (home_in c.args.ranks)) (is_beside c.args.number) c.loop-other.other c.loop-other.links.items c.if-is_beside.links.items c.loop-other.invariant
      (sym w.if-is_beside.ensures) (ap (λ v. v.items) w.links-is)
]

pub returns : goal.returns
returns c =
    let done : c.loop-other.other ≡ c.args.count = omega (arith, c.loop-other-test.false, c.loop-other.auto) in
    c.of.ensures ∙ c.loop-other.invariant
    ∙ ap (λ (n : ℕ). map (link_to (home_in c.args.ranks)) (filter (is_beside c.args.number) (range_with_len 0 n))) done
    ∙ links_are c.args.count c.args.number (home_in c.args.ranks)
