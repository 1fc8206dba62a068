use Rattle.std.proofs.Common.{◌≡◌, ◌+◌, map, ap, ◌∙◌, arith, ℕ}
use Rattle.std.specs.Prelude.{◌==◌, filter}
use Rattle.std.specs.List.{range_with_len}
use Rattle.std.proofs.lemmas.Bool.{eq-eqb}
use Rattle.std.proofs.lemmas.Bool.Decides.{nat_tests}
use Rattle.bf_beads.specs.Row.{bead_at, home_in}
use Rattle.bf_lemmas.proofs.Lists.{taken_more, passed_more}
use Rattle.bf_beads.proofs.OpeningSteps.{part_is, first_bead}
use Rattle.bf_beads.proofs.opening.first_beads.Goals.{then-number-ranks+in_ok-first_links+in_ok-push, else-number-ranks}
use Rattle.bf_beads.proofs.opening.first_beads.Goals as goal

pub loop-number-preserved : goal.loop-number-preserved
loop-number-preserved c =
    let count = c.args.count in
    let ranks = c.args.ranks in
    let number = c.loop-number.number in
    let here = λ (k : ℕ). home_in ranks k == c.args.rank in
    elim c.if-number-ranks.branch [
      | then-number-ranks+in_ok-first_links+in_ok-push w ↦ taken_more (bead_at count 0 (home_in ranks)) here number _ c.loop-number.beads.items c.if-number-ranks.beads.items c.loop-number.invariant
          (eq-eqb (home_in ranks number) c.args.rank w.if-number-ranks.true)
          (ap (λ links. record { number = number; value = number + 1; links = links }) w.in_ok-first_links.ensures ∙ first_bead count number (home_in ranks))
          (ap (λ v. v.items) w.beads-is ∙ w.in_ok-push.ensures.items)
      | else-number-ranks w ↦ passed_more (bead_at count 0 (home_in ranks)) here number c.loop-number.beads.items c.if-number-ranks.beads.items c.loop-number.invariant
          (grind (arith, nat_tests, w.if-number-ranks.false)) (ap (λ v. v.items) w.beads-is)
    ]

pub returns : goal.returns
returns c =
    let done : c.loop-number.number ≡ c.args.count = omega (arith, c.loop-number-test.false, c.loop-number.auto) in
    c.of.ensures ∙ c.loop-number.invariant
    ∙ ap (λ (n : ℕ). map (bead_at c.args.count 0 (home_in c.args.ranks)) (filter (λ k. home_in c.args.ranks k == c.args.rank) (range_with_len 0 n))) done
    ∙ part_is c.args.count c.args.rank (home_in c.args.ranks)
