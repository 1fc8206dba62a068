-- Where no bead goes, all stay.
use Rattle.std.proofs.Common.{◌≡◌, Bool, true, false, cond, List, [], ◌∷◌, refl, ap}
use Rattle.std.specs.Prelude.{◌||◌, not, filter}
use Rattle.std.specs.List.{list_any}

pub none_goes : {I : Type 0} (p : I → Bool) (xs : List I) → list_any p xs ≡ false → filter p xs ≡ []
none_goes p [] none = refl
none_goes {I = I} p (x ∷ xs) none = at (p x) (none_goes p xs) none
  where
    at : (b : Bool) → (list_any p xs ≡ false → filter p xs ≡ []) → (b || list_any p xs) ≡ false → cond b (x ∷ filter p xs) (filter p xs) ≡ []
    at true later none = absurd (cc)
    at false later none = later none

pub all_stay : {I : Type 0} (p : I → Bool) (xs : List I) → list_any p xs ≡ false → filter (λ x. not (p x)) xs ≡ xs
all_stay p [] none = refl
all_stay {I = I} p (x ∷ xs) none = at (p x) (all_stay p xs) none
  where
    at : (b : Bool) → (list_any p xs ≡ false → filter (λ x. not (p x)) xs ≡ xs) → (b || list_any p xs) ≡ false
        → cond (not b) (x ∷ filter (λ x. not (p x)) xs) (filter (λ x. not (p x)) xs) ≡ x ∷ xs
    at true later none = absurd (cc)
    at false later none = ap (λ rest. x ∷ rest) (later none)
