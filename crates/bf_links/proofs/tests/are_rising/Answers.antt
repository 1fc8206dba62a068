use Rattle.std.proofs.Common.{◌≡◌, ℕ, ◌+◌, ◌-◌, ◌<◌, ◌≤◌, true, List, get_or, refl, sym, subst, ◌∙◌, arith, inl, inr}
use Rattle.std.specs.Ordering.{is_lt}
use Rattle.std.specs.declared.cmp.Ordering.{Ordering}
use Rattle.std.specs.declared.cmp.Ordering.TheVariants.{Less, Equal, Greater}
use Rattle.std.proofs.lemmas.Bool.{cases_lt}
use Rattle.std.proofs.lemmas.List.Elements.{pair_read}
use Rattle.bf_case.proofs.OrderLemmas.{before_trans}
use Rattle.bf_links.specs.Links.{ComesBefore}
use Rattle.bf_links.specs.declared.link.Link.{Link}
use Rattle.bf_links.proofs.tests.are_rising.Goals as goal

less_from : (o : Ordering) → is_lt o ≡ true → o ≡ Less
less_from Less test = refl
less_from Equal test = absurd cc
less_from Greater test = absurd cc

-- leaves that rise up to a place, and at that place too
rising_more : (leaves : List Link) (n : ℕ) → 1 ≤ n → ((d : Link) → ComesBefore (get_or leaves (n - 1) d) (get_or leaves n d))
    → ((i j : ℕ) (d : Link) → i < j → j < n → ComesBefore (get_or leaves i d) (get_or leaves j d))
    → (i j : ℕ) (d : Link) → i < j → j < n + 1 → ComesBefore (get_or leaves i d) (get_or leaves j d)
rising_more leaves n some next before i j d less within = elim (cases_lt j n) [
  | inl below ↦ before i j d less below
  | inr past ↦
      let last : n ≡ j = omega arith in
      let At : ℕ → Type 0 = λ k. ComesBefore (get_or leaves i d) (get_or leaves k d) in
      subst At last (elim (cases_lt i (n - 1)) [
        | inl far ↦ before_trans (get_or leaves i d).id (get_or leaves (n - 1) d).id (get_or leaves n d).id (before i (n - 1) d far (omega arith)) (next d)
        | inr near ↦
            let here : n - 1 ≡ i = omega arith in
            let From : ℕ → Type 0 = λ k. ComesBefore (get_or leaves k d) (get_or leaves n d) in
            subst From here (next d)
      ])
]

pub loop-place-preserved : goal.loop-place-preserved
loop-place-preserved c =
    let leaves = c.args.leaves.now in
    let place = c.loop-place.place in
    let first = c.index-leaves-place.result in
    let second = c.index-leaves-place-in-loop-place.result in
    let rises : ComesBefore (get_or leaves (place - 1) first) (get_or leaves place second) = less_from _ (sym c.lt-rises.ensures ∙ c.if-not-rises.false) in
    let both : ComesBefore first second = subst (λ (a : Link). ComesBefore a second) (sym c.index-leaves-place.is)
    (subst (ComesBefore (get_or leaves (place - 1) first)) (sym c.index-leaves-place-in-loop-place.is) rises) in
    rising_more leaves place (omega arith)
    (pair_read leaves ComesBefore (place - 1) place first second (omega arith) (omega arith) c.index-leaves-place.is c.index-leaves-place-in-loop-place.is both)
    c.loop-place.invariant
