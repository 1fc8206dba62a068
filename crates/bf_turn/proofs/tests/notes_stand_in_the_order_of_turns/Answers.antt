use Rattle.std.proofs.Common.{rules, ◌≡◌, ℕ, zero, suc, ◌<◌, [], ◌∷◌, arith, refl, subst, sym}
use Rattle.std.specs.Prelude.{Contains}
use Rattle.bf_turn.proofs.tests.notes_stand_in_the_order_of_turns.Goals as goal

three_there : (party : ℕ) → party < 3 → Contains (1 ∷ (0 ∷ (2 ∷ []))) party
three_there zero less = (1, omega arith, refl)
three_there (suc zero) less = (0, omega arith, refl)
three_there (suc (suc zero)) less = (2, omega arith, refl)
three_there (suc (suc (suc party))) less = absurd (omega (arith, less))

pub close-diary-requires-clause-all : goal.close-diary-requires-clause-all
close-diary-requires-clause-all g c = λ party less.
    let parties : c.noted-whole.result.known.parties ≡ 1 ∷ (0 ∷ (2 ∷ [])) = search rules in
    let three : c.in-Ok.turns.parties ≡ 3 = search rules in
    subst (λ ps. Contains ps party) (sym parties) (three_there party (subst (λ n. party < n) three less))
