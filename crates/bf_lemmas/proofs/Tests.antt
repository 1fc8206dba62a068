-- Facts about tests.
use Rattle.std.proofs.Common.{◌≡◌, ℕ, suc, Bool, true, false, arith, sym, refl}
use Rattle.std.specs.Prelude.{◌==◌, not}
use Rattle.std.proofs.lemmas.Bool.Decides.{nat_tests}

-- two tests that pass in the same cases
pub same_tests : (a b : Bool) → (a ≡ true → b ≡ true) → (b ≡ true → a ≡ true) → a ≡ b
same_tests true b there back = sym (there refl)
same_tests false true there back = back refl
same_tests false false there back = refl

pub eqb_swap : (a b : ℕ) → (a == b) ≡ (b == a)
eqb_swap a b = grind (arith, nat_tests)

pub not_zero : (n : ℕ) → not (suc n == 0) ≡ true
not_zero n = grind (arith, nat_tests)
