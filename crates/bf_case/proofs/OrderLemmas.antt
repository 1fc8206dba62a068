-- The order of ids: where two of them part, and what stands between siblings.
use Rattle.std.proofs.Common.{◌≡◌, ℕ, ◌+◌, ◌<◌, List, [], ◌∷◌, ◌++◌, ◌⊎◌, inl, inr, refl, sym, ap, ◌∙◌, arith, append_assoc}
use Rattle.std.specs.declared.cmp.Ordering.{Ordering}
use Rattle.std.specs.declared.cmp.Ordering.TheVariants.{Less, Equal, Greater}
use Rattle.std.specs.Ordering.{nat_cmp, ordering_then}
use Rattle.std.specs.Cmp.{nat_cmp_is}
use Rattle.std.specs.Cmp.Lexicographic.{slice_cmp}
use Rattle.std.proofs.lemmas.Bool.{cases_order}
use Rattle.bf_id.specs.Id.{BlockId, child_of, Begins}
use Rattle.bf_id.specs.Walk.{IsBefore}
use Rattle.bf_id.proofs.Boxes.{Continues}
use Rattle.bf_id.proofs.Rising.{id_cmp_total, later_Less}
use Rattle.bf_case.proofs.SampleLemmas.{not_before_itself}

-- what stands before an id that stands before a third stands before the third
pub before_trans : (i j k : BlockId) → IsBefore i j → IsBefore j k → IsBefore i k
before_trans i j k first second = id_cmp_total.trans i j k first second

-- of two ids at most one stands before the other
pub not_both_before : (i j : BlockId) → IsBefore i j → IsBefore j i → ⊥
not_both_before i j first second = not_before_itself i (before_trans i j i first second)

-- numbers decide, or they are the same and the rest decides
then_Less : (x y : ℕ) (rest : Ordering) → ordering_then (nat_cmp x y) rest ≡ Less → (x < y) ⊎ ((x ≡ y) × (rest ≡ Less))
then_Less x y rest e = by (cases_order x y)
  where
    decided : (o : Ordering) → o ≡ nat_cmp x y → ordering_then o rest ≡ Less
    decided o is = ap (λ p. ordering_then p rest) is ∙ e

    by : (x ≡ y) ⊎ ((x < y) ⊎ (y < x)) → (x < y) ⊎ ((x ≡ y) × (rest ≡ Less))
    by (inl same) = inr (same, decided Equal (nat_cmp_is x y Equal same))
    by (inr (inl below)) = inl below
    by (inr (inr above)) = let wrong : Greater ≡ Less = decided Greater (nat_cmp_is x y Greater above) in absurd cc

-- a list between a front with a number behind it and the same front with the next number goes on where the first ends
between : (front ds : List ℕ) (x : ℕ) → slice_cmp nat_cmp (front ++ x ∷ []) ds ≡ Less → slice_cmp nat_cmp ds (front ++ (x + 1) ∷ []) ≡ Less
    → (rest : List ℕ) × (ds ≡ front ++ x ∷ rest)
between [] [] x low high = absurd cc
between (y ∷ front) [] x low high = absurd cc
between [] (d ∷ ds) x low high = by (then_Less x d (slice_cmp nat_cmp [] ds) low) (then_Less d (x + 1) (slice_cmp nat_cmp ds []) high) (ends ds)
  where
    ends : (es : List ℕ) → slice_cmp nat_cmp es [] ≡ Less → ⊥
    ends [] e = cc
    ends (y ∷ es) e = cc

    by : (x < d) ⊎ ((x ≡ d) × (slice_cmp nat_cmp [] ds ≡ Less)) → (d < x + 1) ⊎ ((d ≡ x + 1) × (slice_cmp nat_cmp ds [] ≡ Less))
        → (slice_cmp nat_cmp ds [] ≡ Less → ⊥) → (rest : List ℕ) × (d ∷ ds ≡ x ∷ rest)
    by (inr (same, more)) q end = (ds, ap (λ y. y ∷ ds) (sym same))
    by (inl above) (inl below) end = absurd (omega arith)
    by (inl above) (inr (same, none)) end = absurd (end none)
between (y ∷ front) (d ∷ ds) x low high =
    by (then_Less y d (slice_cmp nat_cmp (front ++ x ∷ []) ds) low) (then_Less d y (slice_cmp nat_cmp ds (front ++ (x + 1) ∷ [])) high)
    (between front ds x)
  where
    by : (y < d) ⊎ ((y ≡ d) × (slice_cmp nat_cmp (front ++ x ∷ []) ds ≡ Less)) → (d < y) ⊎ ((d ≡ y) × (slice_cmp nat_cmp ds (front ++ (x + 1) ∷ []) ≡ Less))
        → (slice_cmp nat_cmp (front ++ x ∷ []) ds ≡ Less → slice_cmp nat_cmp ds (front ++ (x + 1) ∷ []) ≡ Less → (rest : List ℕ) × (ds ≡ front ++ x ∷ rest))
        → (rest : List ℕ) × (d ∷ ds ≡ y ∷ (front ++ x ∷ rest))
    by (inl below) (inl above) more = absurd (omega arith)
    by (inl below) (inr (same, above)) more = absurd (omega arith)
    by (inr (same, below)) (inl above) more = absurd (omega arith)
    by (inr (same, below)) (inr (again, above)) more = let goes = more below above in (goes.0, cc (same, goes.1))

-- an id between a child and the next one lies in the first
pub between_siblings : (p i : BlockId) (octant : ℕ) → IsBefore (child_of p octant) i → IsBefore i (child_of p (octant + 1)) → Begins (child_of p octant) i
between_siblings p i octant low high =
    by (then_Less p.root i.root (slice_cmp nat_cmp (p.digits ++ octant ∷ []) i.digits) low)
    (then_Less i.root p.root (slice_cmp nat_cmp i.digits (p.digits ++ (octant + 1) ∷ [])) high)
  where
    by : (p.root < i.root) ⊎ ((p.root ≡ i.root) × (slice_cmp nat_cmp (p.digits ++ octant ∷ []) i.digits ≡ Less))
        → (i.root < p.root) ⊎ ((i.root ≡ p.root) × (slice_cmp nat_cmp i.digits (p.digits ++ (octant + 1) ∷ []) ≡ Less)) → Begins (child_of p octant) i
    by (inl below) (inl above) = absurd (omega arith)
    by (inl below) (inr (same, above)) = absurd (omega arith)
    by (inr (same, below)) (inl above) = absurd (omega arith)
    by (inr (same, below)) (inr (again, above)) =
        let goes = between p.digits i.digits octant below above in
        (same, (goes.0, goes.1 ∙ sym (append_assoc p.digits (octant ∷ []) goes.0)))

-- a child stands before the next one
pub sibling_before : (p : BlockId) (octant : ℕ) → IsBefore (child_of p octant) (child_of p (octant + 1))
sibling_before p octant =
    let same : Equal ≡ nat_cmp p.root p.root = nat_cmp_is p.root p.root Equal refl in
    ap (λ o. ordering_then o (slice_cmp nat_cmp (p.digits ++ octant ∷ []) (p.digits ++ (octant + 1) ∷ []))) (sym same)
    ∙ later_Less p.digits octant (octant + 1) [] [] (omega arith)

-- ---- where ids part

-- behind the same front, the first list has the lesser number
pub record Part (ds es : List ℕ) : Type 0 where
  pub front : List ℕ
  pub low : ℕ
  pub high : ℕ
  pub low_rest : List ℕ
  pub high_rest : List ℕ
  pub less : low < high
  pub first : ds ≡ front ++ low ∷ low_rest
  pub second : es ≡ front ++ high ∷ high_rest

parted : (ds es front low_rest high_rest : List ℕ) (low high : ℕ) → low < high → ds ≡ front ++ low ∷ low_rest → es ≡ front ++ high ∷ high_rest → Part ds es
parted ds es front low_rest high_rest low high less first second = record {
  front = front;
  low = low;
  high = high;
  low_rest = low_rest;
  high_rest = high_rest;
  less = less;
  first = first;
  second = second;
}

-- the first id stands before the second and doesn't begin it
abbrev pub Precedes : BlockId → BlockId → Type 0
Precedes i j = (i.root < j.root) ⊎ ((i.root ≡ j.root) × Part i.digits j.digits)

pub before_from_precedes : (i j : BlockId) → Precedes i j → IsBefore i j
before_from_precedes i j (inl below) =
    ap (λ o. ordering_then o (slice_cmp nat_cmp i.digits j.digits)) (sym (nat_cmp_is i.root j.root Less below))
before_from_precedes i j (inr (same, part)) =
    let digits : slice_cmp nat_cmp i.digits j.digits ≡ Less =
    rw (part.first, part.second) (later_Less part.front part.low part.high part.low_rest part.high_rest part.less) in
    ap (λ o. ordering_then o (slice_cmp nat_cmp i.digits j.digits)) (sym (nat_cmp_is i.root j.root Equal same)) ∙ digits

-- a list that stands before another begins it, or they part
less_cases : (ds es : List ℕ) → slice_cmp nat_cmp ds es ≡ Less → Continues ds es ⊎ Part ds es
less_cases [] es less = inl (es, refl)
less_cases (d ∷ ds) [] less = absurd cc
less_cases (d ∷ ds) (e ∷ es) less = by (then_Less d e (slice_cmp nat_cmp ds es) less) (less_cases ds es)
  where
    more : d ≡ e → Continues ds es ⊎ Part ds es → Continues (d ∷ ds) (e ∷ es) ⊎ Part (d ∷ ds) (e ∷ es)
    more same (inl (rest, goes)) = inl (rest, cc)
    more same (inr part) =
        inr (parted (d ∷ ds) (e ∷ es) (d ∷ part.front) part.low_rest part.high_rest part.low part.high part.less (cc (part.first)) (cc (same, part.second)))

    by : (d < e) ⊎ ((d ≡ e) × (slice_cmp nat_cmp ds es ≡ Less)) → (slice_cmp nat_cmp ds es ≡ Less → Continues ds es ⊎ Part ds es)
        → Continues (d ∷ ds) (e ∷ es) ⊎ Part (d ∷ ds) (e ∷ es)
    by (inl below) later = inr (parted (d ∷ ds) (e ∷ es) [] ds es d e below refl refl)
    by (inr (same, rest)) later = more same (later rest)

-- an id that stands before another begins it or precedes it
pub before_cases : (i j : BlockId) → IsBefore i j → Begins i j ⊎ Precedes i j
before_cases i j before = by (then_Less i.root j.root (slice_cmp nat_cmp i.digits j.digits) before)
  where
    more : i.root ≡ j.root → Continues i.digits j.digits ⊎ Part i.digits j.digits → Begins i j ⊎ Precedes i j
    more same (inl goes) = inl (same, goes)
    more same (inr part) = inr (inr (same, part))

    by : (i.root < j.root) ⊎ ((i.root ≡ j.root) × (slice_cmp nat_cmp i.digits j.digits ≡ Less)) → Begins i j ⊎ Precedes i j
    by (inl below) = inr (inl below)
    by (inr (same, less)) = more same (less_cases i.digits j.digits less)

-- ---- children and parents of ids that part

part_left : (ds es more : List ℕ) → Part ds es → Part (ds ++ more) es
part_left ds es more part =
    parted (ds ++ more) es part.front (part.low_rest ++ more) part.high_rest part.low part.high part.less
    (ap (λ xs. xs ++ more) part.first ∙ append_assoc part.front (part.low ∷ part.low_rest) more) part.second

part_right : (ds es more : List ℕ) → Part ds es → Part ds (es ++ more)
part_right ds es more part =
    parted ds (es ++ more) part.front part.low_rest (part.high_rest ++ more) part.low part.high part.less part.first
    (ap (λ xs. xs ++ more) part.second ∙ append_assoc part.front (part.high ∷ part.high_rest) more)

-- a child precedes what its parent precedes
pub child_precedes : (i j : BlockId) (octant : ℕ) → Precedes i j → Precedes (child_of i octant) j
child_precedes i j octant (inl below) = inl below
child_precedes i j octant (inr (same, part)) = inr (same, part_left i.digits j.digits (octant ∷ []) part)

-- what precedes a parent precedes its child
pub precedes_child : (i j : BlockId) (octant : ℕ) → Precedes i j → Precedes i (child_of j octant)
precedes_child i j octant (inl below) = inl below
precedes_child i j octant (inr (same, part)) = inr (same, part_right i.digits j.digits (octant ∷ []) part)

-- where a list with one number behind it is a front with a number behind it and more, the number is that number or stands in the list
push_cases : (ds front rest : List ℕ) (x y : ℕ) → ds ++ x ∷ [] ≡ front ++ y ∷ rest
    → ((ds ≡ front) × (x ≡ y)) ⊎ ((more : List ℕ) × (ds ≡ front ++ y ∷ more))
push_cases [] [] rest x y e = inl (refl, cc)
push_cases [] (f ∷ []) rest x y e = absurd cc
push_cases [] (f ∷ g ∷ front) rest x y e = absurd cc
push_cases (d ∷ ds) [] rest x y e = let same : d ≡ y = cc in inr (ds, ap (λ z. z ∷ ds) same)
push_cases (d ∷ ds) (f ∷ front) rest x y e = by (push_cases ds front rest x y (cc e))
  where
    same : d ≡ f
    same = cc e

    by : ((ds ≡ front) × (x ≡ y)) ⊎ ((more : List ℕ) × (ds ≡ front ++ y ∷ more))
        → ((d ∷ ds ≡ f ∷ front) × (x ≡ y)) ⊎ ((more : List ℕ) × (d ∷ ds ≡ f ∷ (front ++ y ∷ more)))
    by (inl (goes, last)) = inl (cc (same, goes), last)
    by (inr (more, goes)) = inr (more, cc (same, goes))

-- what precedes a first child precedes its parent
pub precedes_parent : (i p : BlockId) → Precedes i (child_of p 0) → Precedes i p
precedes_parent i p (inl below) = inl below
precedes_parent i p (inr (same, part)) = by (push_cases p.digits part.front part.high_rest 0 part.high part.second)
  where
    by : ((p.digits ≡ part.front) × (0 ≡ part.high)) ⊎ ((more : List ℕ) × (p.digits ≡ part.front ++ part.high ∷ more)) → Precedes i p
    by (inl (goes, none)) = absurd (omega (arith, part.less, none))
    by (inr (more, goes)) =
        inr (same, parted i.digits p.digits part.front part.low_rest more part.low part.high part.less part.first goes)

-- an id lies in a child, other than the first, of a block
abbrev pub LiesLater : BlockId → BlockId → Type 0
LiesLater p j = (octant : ℕ) × (0 < octant) × Begins (child_of p octant) j

-- where a first child precedes an id, its parent does, or the id lies in a later child
pub parent_precedes : (p j : BlockId) → Precedes (child_of p 0) j → Precedes p j ⊎ LiesLater p j
parent_precedes p j (inl below) = inl (inl below)
parent_precedes p j (inr (same, part)) = by (push_cases p.digits part.front part.low_rest 0 part.low part.first)
  where
    by : ((p.digits ≡ part.front) × (0 ≡ part.low)) ⊎ ((more : List ℕ) × (p.digits ≡ part.front ++ part.low ∷ more)) → Precedes p j ⊎ LiesLater p j
    by (inl (goes, first)) =
        let digits : j.digits ≡ p.digits ++ part.high ∷ part.high_rest = part.second ∙ ap (λ ds. ds ++ part.high ∷ part.high_rest) (sym goes) in
        inr (part.high, omega (arith, part.less), (same, (part.high_rest, digits ∙ sym (append_assoc p.digits (part.high ∷ []) part.high_rest))))
    by (inr (more, goes)) =
        inl (inr (same, parted p.digits j.digits part.front more part.high_rest part.low part.high part.less goes part.second))

-- a child precedes each later one
pub children_part : (p : BlockId) (k l : ℕ) → k < l → Precedes (child_of p k) (child_of p l)
children_part p k l less = inr (refl, parted (p.digits ++ k ∷ []) (p.digits ++ l ∷ []) p.digits [] [] k l less refl refl)
