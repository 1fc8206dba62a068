-- The words of the command line.
use Rattle.std.proofs.Common.{◌≡◌, ℕ, List, [], ◌∷◌, Bool, eqb, length, map, get_or, ap, arith}
use Rattle.std.specs.Prelude.{◌↔◌, IsTrue}
use Rattle.std.specs.Borrow.{Bor}
use lib.Pointwise.{pointwise}
use Rattle.std.proofs.lemmas.Slice.Eq.{slice_eq-Decides}
use Rattle.std.proofs.lemmas.Bool.Decides.{Decides-eqb}

-- the one word of a list is a given one
pub one_word : (words : List (Bor (List ℕ))) (d : Bor (List ℕ)) (word : List ℕ) (b : Bool) → length words ≡ 1
    → b ≡ pointwise eqb (get_or words 0 d).now word
    → IsTrue b ↔ (map (λ (w : Bor (List ℕ)). w.now) words ≡ word ∷ [])
one_word [] d word b e is = absurd (omega (arith, e))
one_word (w ∷ v ∷ words) d word b e is = absurd (omega (arith, e))
one_word (w ∷ []) d word b e is =
    let same = slice_eq-Decides Decides-eqb w.now word b is in
    (λ yes_is. ap (λ x. x ∷ []) (same.0 yes_is), λ words. same.1 (let equal : w.now ≡ word = cc in equal))
