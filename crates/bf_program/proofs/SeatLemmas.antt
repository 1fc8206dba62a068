-- The locals of members as lists of locals change.
use Rattle.std.proofs.Common.{◌≡◌, ℕ, Bool, true, false, cond, List, [], ◌∷◌, map, filter, refl, sym, ◌∙◌, ap}
use Rattle.std.specs.Prelude.{◌==◌, Some, None}
use Rattle.std.specs.List.{zip}
use Rattle.std.proofs.lemmas.Bool.{eqb-true}
use Rattle.bf_program.specs.Lockstep.{local_of}

-- each member's local changed by a function of the member and its local
pub local_changed : {L N : Type 0} (f : ℕ × L → N) (members : List ℕ) (locals : List L) (rank : ℕ) (local : L)
    → local_of members locals rank ≡ Some local → local_of members (map f (zip members locals)) rank ≡ Some (f (rank, local))
local_changed f [] locals rank local its = absurd (cc)
local_changed f (x ∷ xs) [] rank local its = absurd (cc)
local_changed {L = L} {N = N} f (x ∷ xs) (l ∷ ls) rank local its = by_head (local_changed f xs ls rank local) (x == rank) refl its
  where
    the : {A : Type 0} {a b : A} → Some a ≡ Some b → a ≡ b
    the {a = a} same = ap (λ o. elim o [ Some v ↦ v | None ↦ a ]) same

    by_head : (local_of xs ls rank ≡ Some local → local_of xs (map f (zip xs ls)) rank ≡ Some (f (rank, local))) → (b : Bool) → (x == rank) ≡ b
        → cond b (Some l) (local_of xs ls rank) ≡ Some local
        → cond b (Some (f (x, l))) (local_of xs (map f (zip xs ls)) rank) ≡ Some (f (rank, local))
    by_head rest true same is_it = ap (λ r. Some (f (r, l))) (eqb-true x rank same) ∙ ap (λ v. Some (f (rank, v))) (the is_it)
    by_head rest false other is_later = rest is_later

-- a local of changed ones comes of a local
pub local_before : {L N : Type 0} (f : ℕ × L → N) (members : List ℕ) (locals : List L) (rank : ℕ) (after : N)
    → local_of members (map f (zip members locals)) rank ≡ Some after → (local : L) × ((local_of members locals rank ≡ Some local) × (after ≡ f (rank, local)))
local_before f [] locals rank after its = absurd (cc)
local_before f (x ∷ xs) [] rank after its = absurd (cc)
local_before {L = L} {N = N} f (x ∷ xs) (l ∷ ls) rank after its = by_head (local_before f xs ls rank after) (x == rank) refl its
  where
    the : {A : Type 0} {a b : A} → Some a ≡ Some b → a ≡ b
    the {a = a} same = ap (λ o. elim o [ Some v ↦ v | None ↦ a ]) same

    by_head : (local_of xs (map f (zip xs ls)) rank ≡ Some after → (local : L) × ((local_of xs ls rank ≡ Some local) × (after ≡ f (rank, local)))) → (b : Bool) → (x == rank) ≡ b
        → cond b (Some (f (x, l))) (local_of xs (map f (zip xs ls)) rank) ≡ Some after
        → (local : L) × ((cond b (Some l) (local_of xs ls rank) ≡ Some local) × (after ≡ f (rank, local)))
    by_head rest true same is_it = (l, (refl, sym (the is_it) ∙ ap (λ r. f (r, l)) (eqb-true x rank same)))
    by_head rest false other is_later = rest is_later

-- each local changed by a function
pub local_mapped : {L N : Type 0} (f : L → N) (members : List ℕ) (locals : List L) (rank : ℕ) (local : L)
    → local_of members locals rank ≡ Some local → local_of members (map f locals) rank ≡ Some (f local)
local_mapped f [] locals rank local its = absurd (cc)
local_mapped f (x ∷ xs) [] rank local its = absurd (cc)
local_mapped {L = L} f (x ∷ xs) (l ∷ ls) rank local its = by_head (local_mapped f xs ls rank local) (x == rank) its
  where
    by_head : (local_of xs ls rank ≡ Some local → local_of xs (map f ls) rank ≡ Some (f local)) → (b : Bool)
        → cond b (Some l) (local_of xs ls rank) ≡ Some local → cond b (Some (f l)) (local_of xs (map f ls) rank) ≡ Some (f local)
    by_head rest true is_it = ap (λ o. elim o [ Some v ↦ Some (f v) | None ↦ None ]) is_it
    by_head rest false is_later = rest is_later

-- the locals of those members that pass a test, changed
pub local_chosen : {L N : Type 0} (f : ℕ × L → N) (test : ℕ → Bool) (members : List ℕ) (locals : List L) (rank : ℕ) (local : L)
    → local_of members locals rank ≡ Some local → test rank ≡ true
    → local_of (filter test members) (map f (filter (λ seat. test seat.0) (zip members locals))) rank ≡ Some (f (rank, local))
local_chosen f test [] locals rank local its passes = absurd (cc)
local_chosen f test (x ∷ xs) [] rank local its passes = absurd (cc)
local_chosen {L = L} {N = N} f test (x ∷ xs) (l ∷ ls) rank local its passes = by_test (λ later. local_chosen f test xs ls rank local later passes) (test x) refl (x == rank) refl its
  where
    the : {A : Type 0} {a b : A} → Some a ≡ Some b → a ≡ b
    the {a = a} same = ap (λ o. elim o [ Some v ↦ v | None ↦ a ]) same

    by_test : (local_of xs ls rank ≡ Some local → local_of (filter test xs) (map f (filter (λ seat. test seat.0) (zip xs ls))) rank ≡ Some (f (rank, local)))
        → (t : Bool) → test x ≡ t → (b : Bool) → (x == rank) ≡ b → cond b (Some l) (local_of xs ls rank) ≡ Some local
        → local_of (cond t (x ∷ filter test xs) (filter test xs)) (map f (cond t ((x, l) ∷ filter (λ seat. test seat.0) (zip xs ls)) (filter (λ seat. test seat.0) (zip xs ls)))) rank ≡ Some (f (rank, local))
    by_test rest true kept true same is_it =
        rw same (ap (λ r. Some (f (r, l))) (eqb-true x rank same) ∙ ap (λ v. Some (f (rank, v))) (the is_it))
    by_test rest true kept false other is_later = rw other (rest is_later)
    by_test rest false dropped true same is_it = absurd (let e : true ≡ false = sym passes ∙ ap test (sym (eqb-true x rank same)) ∙ dropped in cc)
    by_test rest false dropped false other is_later = rest is_later
