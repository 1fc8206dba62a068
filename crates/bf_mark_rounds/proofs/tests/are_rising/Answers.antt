use Rattle.std.proofs.Common.{◌≡◌, ℕ, ◌+◌, ◌-◌, ◌<◌, ◌≤◌, true, List, get_or, refl, sym, subst, ◌∙◌, arith, inl, inr}
use Rattle.std.specs.Ordering.{is_lt}
use Rattle.std.specs.declared.cmp.Ordering.{Ordering}
use Rattle.std.specs.declared.cmp.Ordering.TheVariants.{Less, Equal, Greater}
use Rattle.std.proofs.lemmas.Bool.{cases_lt}
use Rattle.std.proofs.lemmas.List.Elements.{pair_read}
use Rattle.bf_case.proofs.OrderLemmas.{before_trans}
use Rattle.bf_id.specs.Walk.{IsBefore}
use Rattle.bf_id.specs.Id.{BlockId, id_cmp}
use Rattle.bf_mark_rounds.proofs.tests.are_rising.Goals as goal

less_from : (o : Ordering) → is_lt o ≡ true → o ≡ Less
less_from Less test = refl
less_from Equal test = absurd cc
less_from Greater test = absurd cc

-- ids that rise up to a place, and at that place too
rising_more : (ids : List BlockId) (n : ℕ) → 1 ≤ n → ((d : BlockId) → IsBefore (get_or ids (n - 1) d) (get_or ids n d))
    → ((i j : ℕ) (d : BlockId) → i < j → j < n → IsBefore (get_or ids i d) (get_or ids j d))
    → (i j : ℕ) (d : BlockId) → i < j → j < n + 1 → IsBefore (get_or ids i d) (get_or ids j d)
rising_more ids n some next before i j d less within = elim (cases_lt j n) [
  | inl below ↦ before i j d less below
  | inr past ↦
      let last : n ≡ j = omega arith in
      let At : ℕ → Type 0 = λ k. IsBefore (get_or ids i d) (get_or ids k d) in
      subst At last (elim (cases_lt i (n - 1)) [
        | inl far ↦ before_trans (get_or ids i d) (get_or ids (n - 1) d) (get_or ids n d) (before i (n - 1) d far (omega arith)) (next d)
        | inr near ↦
            let here : n - 1 ≡ i = omega arith in
            let From : ℕ → Type 0 = λ k. IsBefore (get_or ids k d) (get_or ids n d) in
            subst From here (next d)
      ])
]

pub loop-place-preserved : goal.loop-place-preserved
loop-place-preserved c =
    let ids = c.args.ids.now in
    let place = c.loop-place.place in
    let first = c.index-ids-place.result in
    let second = c.index-ids-place-in-loop-place.result in
    let both : IsBefore first second = less_from (id_cmp first second) (sym c.lt-rises.ensures ∙ c.if-not-rises.false) in
    rising_more ids place (omega arith)
    (pair_read ids IsBefore (place - 1) place first second (omega arith) (omega arith) c.index-ids-place.is c.index-ids-place-in-loop-place.is both)
    c.loop-place.invariant
