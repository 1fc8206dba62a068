-- Lemmas on the order of ids: the walk through an octree rises, and meets each block.
use Rattle.std.proofs.Common.{◌≡◌, ℕ, zero, suc, ◌<◌, ◌≤◌, ◌+◌, List, [], ◌∷◌, ◌++◌, length, map, refl, ap, sym, ◌∙◌, arith, subst, length-append, ◌↔◌, All, AllPairs, Contains, flat_map}
use Rattle.std.specs.List.{range_with_len}
use Rattle.std.specs.declared.cmp.Ordering.{Ordering}
use Rattle.std.specs.declared.cmp.Ordering.TheVariants.{Less, Equal, Greater}
use Rattle.std.specs.Ordering.{nat_cmp, ordering_then}
use Rattle.std.specs.Cmp.{nat_cmp_is}
use Rattle.std.specs.Cmp.Lexicographic.{slice_cmp}
use Rattle.std.specs.Cmp.{IsTotalOrder}
use Rattle.std.proofs.lemmas.Cmp.{nat_cmp_total, tied_itself, ranked, then_total, on_total, lists_total}
use Rattle.std.proofs.lemmas.List.{append-nil, append_assoc}
use Rattle.std.proofs.lemmas.List.Elements.{All-append, All-cons, All-nil, Contains-append_left, Contains-append_right}
use Rattle.std.proofs.lemmas.List.Kept.{AllPairs-cons}
use Rattle.std.proofs.lemmas.Map.Lookups.{exact_bytes}
use Rattle.bf_id.proofs.Boxes.{same_id, level-child, All-end}
use Rattle.bf_id.specs.Id.{BlockId, id_cmp, child_of, children_of, level_of, Begins}
use Rattle.bf_id.specs.Walk.{walk, IsBefore}

-- a block that lies in a child of this one, of this octant or a later one
record LiesIn (i : BlockId) (low : ℕ) (j : BlockId) : Type 0 where
  octant : ℕ
  rest : List ℕ
  from : low ≤ octant
  same_root : i.root ≡ j.root
  digits : j.digits ≡ i.digits ++ octant ∷ rest

same_Equal : (x : ℕ) → nat_cmp x x ≡ Equal
same_Equal x = tied_itself nat_cmp_total x

-- what a list begins stands behind it
prefix_Less : (front : List ℕ) (x : ℕ) (xs : List ℕ) → slice_cmp nat_cmp front (front ++ x ∷ xs) ≡ Less
prefix_Less [] x xs = refl
prefix_Less (y ∷ front) x xs = rw (same_Equal y) (prefix_Less front x xs)

-- behind the same front, the lesser number decides
pub later_Less : (front : List ℕ) (x y : ℕ) (xs ys : List ℕ) → x < y → slice_cmp nat_cmp (front ++ x ∷ xs) (front ++ y ∷ ys) ≡ Less
later_Less [] x y xs ys below = rw (sym (nat_cmp_is x y Less below)) refl
later_Less (z ∷ front) x y xs ys below = rw (same_Equal z) (later_Less front x y xs ys below)

before_from_digits : (i j : BlockId) → i.root ≡ j.root → slice_cmp nat_cmp i.digits j.digits ≡ Less → IsBefore i j
before_from_digits i j same less = rw (← same, same_Equal i.root) less

-- a block stands before what lies in it
before_inner : (i j : BlockId) (low : ℕ) → LiesIn i low j → IsBefore i j
before_inner i j low h =
    before_from_digits i j h.same_root (rw h.digits (prefix_Less i.digits h.octant h.rest))

-- what lies in a child stands before what lies in a later one
before_later : (i j k : BlockId) (octant : ℕ) → Begins (child_of i octant) j → LiesIn i (octant + 1) k → IsBefore j k
before_later i j k octant first later =
    let in_child : j.digits ≡ i.digits ++ octant ∷ first.1.0 = first.1.1 ∙ append_assoc i.digits (octant ∷ []) first.1.0 in
    before_from_digits j k (sym first.0 ∙ later.same_root) (rw (in_child, later.digits) (later_Less i.digits octant later.octant first.1.0 later.rest (omega arith)))

pub AllPairs-nil : {X : Type 0} (R : X → X → Type 0) → AllPairs R []
AllPairs-nil R = λ i j d below h. absurd (omega arith)

AllPairs-append : {X : Type 0} (R : X → X → Type 0) (xs ys : List X) → AllPairs R xs → AllPairs R ys → All (λ x. All (R x) ys) xs → AllPairs R (xs ++ ys)
AllPairs-append R [] ys left right between = right
AllPairs-append R (x ∷ xs) ys left right between =
    let tail = AllPairs-append R xs ys (λ i j d below h. left (suc i) (suc j) d (omega arith) (omega arith)) right (λ k d h. between (suc k) d (omega arith)) in
    AllPairs-cons R x (xs ++ ys) (All-append (R x) xs ys (λ k d h. left 0 (suc k) d (omega arith) (omega arith)) (between 0 x (omega arith))) tail

in_child : (i j : BlockId) (low octant : ℕ) → low ≤ octant → Begins (child_of i octant) j → LiesIn i low j
in_child i j low octant from h =
    record { octant = octant; rest = h.1.0; from = from; same_root = h.0; digits = h.1.1 ∙ append_assoc i.digits (octant ∷ []) h.1.0 }

begins_itself : (i : BlockId) → Begins i i
begins_itself i = (refl, ([], sym (append-nil i.digits)))

begins_inner : (i j : BlockId) (low : ℕ) → LiesIn i low j → Begins i j
begins_inner i j low h = (h.same_root, (h.octant ∷ h.rest, h.digits))

-- the walks through so many children, one after another
abbrev walks_from : ℕ → BlockId → ℕ → ℕ → List BlockId
walks_from levels i low count = flat_map (walk levels) (map (child_of i) (range_with_len low count))

-- a walk stays in the block, and rises
record IsGoodWalk (levels : ℕ) (i : BlockId) : Type 0 where
  inside : All (Begins i) (walk levels i)
  rising : AllPairs IsBefore (walk levels i)

walks_inside : (levels : ℕ) (i : BlockId) (low count : ℕ) → ((octant : ℕ) → IsGoodWalk levels (child_of i octant)) → All (LiesIn i low) (walks_from levels i low count)
walks_inside levels i low zero good = All-nil (LiesIn i low)
walks_inside levels i low (suc count) good =
    let here = good low in
    let later = walks_inside levels i (low + 1) count good in
    All-append (LiesIn i low) (walk levels (child_of i low)) (walks_from levels i (low + 1) count) (λ k d h. in_child i _ low low (omega arith) (here.inside k d h)) (λ k d h. let l = later k d h in record { octant = l.octant; rest = l.rest; from = omega arith; same_root = l.same_root; digits = l.digits })

walks_rising : (levels : ℕ) (i : BlockId) (low count : ℕ) → ((octant : ℕ) → IsGoodWalk levels (child_of i octant)) → AllPairs IsBefore (walks_from levels i low count)
walks_rising levels i low zero good = AllPairs-nil IsBefore
walks_rising levels i low (suc count) good =
    let here = good low in
    let later = walks_inside levels i (low + 1) count good in
    AllPairs-append IsBefore (walk levels (child_of i low)) (walks_from levels i (low + 1) count) here.rising (walks_rising levels i (low + 1) count good) (λ k d h m e g. before_later i _ _ low (here.inside k d h) (later m e g))

good_walk : (levels : ℕ) (i : BlockId) → IsGoodWalk levels i
unfolding walk
good_walk zero i = record {
  inside = All-cons (Begins i) i [] (begins_itself i) (All-nil (Begins i));
  rising = AllPairs-cons IsBefore i [] (All-nil (IsBefore i)) (AllPairs-nil IsBefore);
}
good_walk (suc levels) i =
    let good : (octant : ℕ) → IsGoodWalk levels (child_of i octant) = λ octant. good_walk levels (child_of i octant) in
    let below = walks_inside levels i 0 8 good in
    record {
      inside = All-cons (Begins i) i (flat_map (walk levels) (children_of i)) (begins_itself i) (λ k d h. begins_inner i _ 0 (below k d h));
      rising = AllPairs-cons IsBefore i (flat_map (walk levels) (children_of i)) (λ k d h. before_inner i _ 0 (below k d h)) (walks_rising levels i 0 8 good);
    }

pub walk_rises : (levels : ℕ) (i : BlockId) → AllPairs IsBefore (walk levels i)
walk_rises levels i = (good_walk levels i).rising

walks_shallow : (levels : ℕ) (i : BlockId) (low count : ℕ) → ((octant : ℕ) → All (λ j. level_of j ≤ level_of (child_of i octant) + levels) (walk levels (child_of i octant))) → All (λ j. level_of j ≤ level_of i + suc levels) (walks_from levels i low count)
walks_shallow levels i low zero shallow = All-nil (λ (j : BlockId). level_of j ≤ level_of i + suc levels)
walks_shallow levels i low (suc count) shallow =
    All-append (λ (j : BlockId). level_of j ≤ level_of i + suc levels) (walk levels (child_of i low)) (walks_from levels i (low + 1) count) (λ k d h. let here = shallow low k d h in omega (arith, level-child i low)) (walks_shallow levels i (low + 1) count shallow)

walk_shallow : (levels : ℕ) (i : BlockId) → All (λ j. level_of j ≤ level_of i + levels) (walk levels i)
unfolding walk
walk_shallow zero i =
    All-cons (λ (j : BlockId). level_of j ≤ level_of i + 0) i [] (omega arith) (All-nil (λ (j : BlockId). level_of j ≤ level_of i + 0))
walk_shallow (suc levels) i =
    All-cons (λ (j : BlockId). level_of j ≤ level_of i + suc levels) i (flat_map (walk levels) (children_of i)) (omega arith) (walks_shallow levels i 0 8 (λ octant. walk_shallow levels (child_of i octant)))

-- each octant of a block is below 8
abbrev IsOctal : BlockId → Type 0
IsOctal j = All (λ octant. octant < 8) j.digits

octal_child : (i : BlockId) (octant : ℕ) → octant < 8 → IsOctal i → IsOctal (child_of i octant)
octal_child i octant small octal =
    let below : ℕ → Type 0 = λ o. o < 8 in
    All-append below i.digits (octant ∷ []) octal (All-cons below octant [] small (All-nil below))

walks_octal : (levels : ℕ) (i : BlockId) (low count : ℕ) → low + count ≤ 8 → ((octant : ℕ) → octant < 8 → All IsOctal (walk levels (child_of i octant))) → All IsOctal (walks_from levels i low count)
walks_octal levels i low zero fits octal = All-nil IsOctal
walks_octal levels i low (suc count) fits octal =
    All-append IsOctal (walk levels (child_of i low)) (walks_from levels i (low + 1) count) (octal low (omega arith)) (walks_octal levels i (low + 1) count (omega arith) octal)

walk_octal : (levels : ℕ) (i : BlockId) → IsOctal i → All IsOctal (walk levels i)
unfolding walk
walk_octal zero i octal = All-cons IsOctal i [] octal (All-nil IsOctal)
walk_octal (suc levels) i octal =
    All-cons IsOctal i (flat_map (walk levels) (children_of i)) octal (walks_octal levels i 0 8 (omega arith) (λ octant small. walk_octal levels (child_of i octant) (octal_child i octant small octal)))

-- a walk meets nothing but blocks that begin as its own, at most so many levels below
pub walk_only : (levels : ℕ) (i j : BlockId) → Contains (walk levels i) j → Begins i j × (level_of j ≤ level_of i + levels)
walk_only levels i j met =
    let P : BlockId → Type 0 = Begins i in
    let Q : BlockId → Type 0 = λ k. level_of k ≤ level_of i + levels in
    (subst P met.2 ((good_walk levels i).inside met.0 j met.1), subst Q met.2 (walk_shallow levels i met.0 j met.1))

-- a walk from a block whose octants are below 8 meets no other kind of block
pub walk_only_octal : (levels : ℕ) (i j : BlockId) → IsOctal i → Contains (walk levels i) j → IsOctal j
walk_only_octal levels i j octal met = subst IsOctal met.2 (walk_octal levels i octal met.0 j met.1)

walks_meet : (levels : ℕ) (i j : BlockId) (low count k octant : ℕ) → low + k ≡ octant → k < count → Contains (walk levels (child_of i octant)) j → Contains (walks_from levels i low count) j
walks_meet levels i j low zero k octant at within met = absurd (omega arith)
walks_meet levels i j low (suc count) zero octant at within met =
    let same : octant ≡ low = omega arith in
    let P : ℕ → Type 0 = λ o. Contains (walk levels (child_of i o)) j in
    Contains-append_left (walk levels (child_of i low)) (walks_from levels i (low + 1) count) j (subst P same met)
walks_meet levels i j low (suc count) (suc k) octant at within met =
    Contains-append_right (walk levels (child_of i low)) (walks_from levels i (low + 1) count) j (walks_meet levels i j (low + 1) count k octant (omega arith) (omega arith) met)

meets_rest : (levels : ℕ) (i j : BlockId) (rest : List ℕ) → All (λ octant. octant < 8) rest → length rest ≤ levels → i.root ≡ j.root → j.digits ≡ i.digits ++ rest → Contains (walk levels i) j
unfolding walk
meets_rest zero i j [] octal fits root digits = (0, omega arith, same_id i j root (sym (append-nil i.digits) ∙ sym digits))
meets_rest zero i j (octant ∷ rest) octal fits root digits = absurd (omega arith)
meets_rest (suc levels) i j [] octal fits root digits = (0, omega arith, same_id i j root (sym (append-nil i.digits) ∙ sym digits))
meets_rest (suc levels) i j (octant ∷ rest) octal fits root digits =
    let below = meets_rest levels (child_of i octant) j rest (λ k d b. octal (suc k) d (omega arith)) (omega arith) root (digits ∙ sym (append_assoc i.digits (octant ∷ []) rest)) in
    Contains-append_right (i ∷ []) (flat_map (walk levels) (children_of i)) j (walks_meet levels i j 0 8 octant octant (omega arith) (octal 0 0 (omega arith)) below)

-- a walk meets each block that begins as its own, at most so many levels below
pub walk_meets : (levels : ℕ) (i j : BlockId) → Begins i j → All (λ octant. octant < 8) j.digits → level_of j ≤ level_of i + levels → Contains (walk levels i) j
walk_meets levels i j h octal near =
    let rest = h.1.0 in
    let P : List ℕ → Type 0 = All (λ octant. octant < 8) in
    let long = length-append i.digits rest in
    let same = ap (λ (ds : List ℕ). length ds) h.1.1 in
    meets_rest levels i j rest (All-end (λ octant. octant < 8) i.digits rest (subst P h.1.1 octal)) (omega arith) h.0 h.1.1

-- the order of ids is total, and tells no two apart that are the same
pub id_cmp_total : IsTotalOrder id_cmp
id_cmp_total = then_total (on_total (λ (i : BlockId). i.root) nat_cmp_total) (on_total (λ (i : BlockId). i.digits) (lists_total nat_cmp_total))

both_Equal : (o p : Ordering) → ordering_then o p ≡ Equal → (o ≡ Equal) × (p ≡ Equal)
both_Equal Less p e = absurd cc
both_Equal Equal p e = (refl, e)
both_Equal Greater p e = absurd cc

pub id_cmp-exact : (i j : BlockId) → (id_cmp i j ≡ Equal) ↔ (i ≡ j)
id_cmp-exact i j =
    let P : BlockId → Type 0 = λ k. id_cmp i k ≡ Equal in
    (exact, λ same. subst P same (tied_itself id_cmp_total i))
  where
    exact : id_cmp i j ≡ Equal → i ≡ j
    exact e =
        let parts = both_Equal (nat_cmp i.root j.root) (slice_cmp nat_cmp i.digits j.digits) e in
        same_id i j (ranked i.root j.root Equal (sym parts.0)) (exact_bytes i.digits j.digits parts.1)
