-- Faces by their numbers, and what is done for one face after the other.
use Rattle.std.proofs.Common.{◌≡◌, ◌≢◌, ℕ, zero, suc, ◌+◌, ◌<◌, get_or, refl, sym, ap, subst, ◌∙◌, arith, inl, inr}
use Rattle.std.proofs.lemmas.Bool.{cases_eq}
use Rattle.bf_face.specs.Face.{all_faces, number_of}
use Rattle.bf_face.specs.declared.face.Face.{Face}
use Rattle.bf_face.specs.declared.face.Face.TheVariants.{XLow, XHigh, YLow, YHigh, ZLow, ZHigh}

number_below : (face : Face) → number_of face < 6
number_below XLow = omega arith
number_below XHigh = omega arith
number_below YLow = omega arith
number_below YHigh = omega arith
number_below ZLow = omega arith
number_below ZHigh = omega arith

-- the face at a place of the list has its number
pub number_of-at : (k : ℕ) → k < 6 → number_of (get_or all_faces k XLow) ≡ k
number_of-at zero below = refl
number_of-at (suc zero) below = refl
number_of-at (suc (suc zero)) below = refl
number_of-at (suc (suc (suc zero))) below = refl
number_of-at (suc (suc (suc (suc zero)))) below = refl
number_of-at (suc (suc (suc (suc (suc zero))))) below = refl
number_of-at (suc (suc (suc (suc (suc (suc k)))))) below = absurd (omega (arith, below))

at-number_of : (face : Face) → get_or all_faces (number_of face) XLow ≡ face
at-number_of XLow = refl
at-number_of XHigh = refl
at-number_of YLow = refl
at-number_of YHigh = refl
at-number_of ZLow = refl
at-number_of ZHigh = refl

-- two faces have two numbers
pub one_number : (face other : Face) → number_of face ≡ number_of other → face ≡ other
one_number face other same = sym (at-number_of face) ∙ ap (λ n. get_or all_faces n XLow) same ∙ at-number_of other

-- the first so many faces have a property
abbrev pub HoldsOfFirst : (Face → Type 0) → ℕ → Type 0
HoldsOfFirst P count = (face : Face) → number_of face < count → P face

pub of_no_face : (P : Face → Type 0) → HoldsOfFirst P 0
of_no_face P face below = absurd (omega (arith, below))

-- the next face gets it, and the others keep it
pub of_one_more : (P Q : Face → Type 0) (k : ℕ) → k < 6 → HoldsOfFirst P k → Q (get_or all_faces k XLow)
    → ((other : Face) → other ≢ get_or all_faces k XLow → P other → Q other) → HoldsOfFirst Q (k + 1)
of_one_more P Q k few first here kept other below =
    let face = get_or all_faces k XLow in
    let at : number_of face ≡ k = number_of-at k few in
    elim (cases_eq (number_of other) k) [
      | inl same ↦ subst Q (sym (one_number other face (same ∙ sym at))) here
      | inr apart ↦ kept other (λ same. apart (ap number_of same ∙ at)) (first other (omega arith))
    ]

pub of_all_faces : (P : Face → Type 0) (count : ℕ) → count ≡ 6 → HoldsOfFirst P count → (face : Face) → P face
of_all_faces P count all first face = first face (omega (arith, all, number_below face))
