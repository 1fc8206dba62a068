-- The leaves after a regrid, where what becomes of each leaf is known: they tile, they are balanced, and they rise.
use Rattle.std.proofs.Common.{◌≡◌, ℕ, ◌+◌, ◌<◌, ◌≤◌, List, [], ◌∷◌, ◌++◌, get_or, flat_map, ◌⊎◌, inl, inr, Contains, refl, sym, ap, subst, ◌∙◌, arith, All, ◌==◌, true, false, append_assoc}
use Rattle.std.specs.Prelude.{AllPairs}
use Rattle.std.proofs.lemmas.Bool.{both_ways, cases_Bool, cases_lt, cases_order, cond-true, cond-false, cond_both, eqb-true, eq-eqb, ne_eqb}
use Rattle.std.proofs.lemmas.List.Elements.{All-head, All-contains, Contains-get_or}
use Rattle.bf_lemmas.proofs.Lists.{All-from_Contains}
use Rattle.bf_id.proofs.Rising.{AllPairs-nil}
use Rattle.bf_id.specs.declared.shape.Shape.{Shape}
use Rattle.bf_id.specs.Cube.{Cube, Voxel, Holds, Within}
use Rattle.bf_id.specs.Meeting.{Meet}
use Rattle.bf_id.specs.Shape.{InDomain}
use Rattle.bf_id.specs.Id.{BlockId, IsId, InShape, level_of, box_of, child_of, children_of, parent_of, octant_of, Touch, Begins, id_eq}
use Rattle.bf_id.specs.Tiling.{Tiles, IsBalanced}
use Rattle.bf_id.specs.Walk.{IsBefore}
use Rattle.bf_id.proofs.Cubes.{Holds-within, Meet-within, Meet_sym}
use Rattle.bf_id.proofs.Boxes.{All-end, level-child, IsId-child, IsId-parent, child_within, child_holding, child_is_one, child_meeting, id_eq_is_equal}
use Rattle.bf_id.proofs.Tilings.{Contains-one, Contains-one_cases, Contains-none, Contains-flat_map, Contains-flat_map_cases, Contains-child, Contains-child_cases, leaves_part}
use Rattle.bf_case.specs.declared.target.Target.{Target}
use Rattle.bf_case.specs.declared.target.Target.TheVariants.{Keep, Refine, Merge}
use Rattle.bf_case.specs.Balanced.{AreBalancedLeaves}
use Rattle.bf_case.specs.Regrid.{heirs_by}
use Rattle.bf_case.proofs.OctetLemmas.{parent_of-child, octant_of-child, level-parent}
use Rattle.bf_case.proofs.OrderLemmas.{Precedes, before_cases, before_from_precedes, child_precedes, precedes_child, precedes_parent, parent_precedes, LiesLater, children_part}
use Rattle.bf_case.proofs.ListLemmas.{AllBefore, AllPairs-one, AllPairs-from_fn, AllPairs-flat_map}
use Rattle.bf_case.proofs.SampleLemmas.{not_before_itself}

-- the leaves that stand where the old ones stood
abbrev pub heirs_in : (BlockId → Target) → List BlockId → List BlockId
heirs_in target ids = flat_map (λ i. heirs_by (target i) i) ids

-- a leaf of an octet that merges: the octet is that of its parent, and all of it are leaves that merge
pub record IsInOctet (ids : List BlockId) (target : BlockId → Target) (i : BlockId) : Type 0 where
  pub octal : octant_of i < 8
  pub child : i ≡ child_of (parent_of i) (octant_of i)
  pub leaves : (octant : ℕ) → octant < 8 → Contains ids (child_of (parent_of i) octant)
  pub merge : (octant : ℕ) → octant < 8 → target (child_of (parent_of i) octant) ≡ Merge

-- what becomes of the leaves fits together
pub record IsSound (shape : Shape) (levels : ℕ) (ids : List BlockId) (target : BlockId → Target) : Type 0 where
  pub room : (i : BlockId) → Contains ids i → target i ≡ Refine → level_of i < levels
  pub forced : (i j : BlockId) → Contains ids i → Contains ids j → target j ≡ Refine → Touch shape j i → level_of j ≡ level_of i + 1 → target i ≡ Refine
  pub octets : (i : BlockId) → Contains ids i → target i ≡ Merge → IsInOctet ids target i
  pub stays : (i j : BlockId) → Contains ids i → Contains ids j → target i ≡ Merge → target j ≡ Refine → Touch shape j i → level_of j ≡ level_of i → ⊥
  pub finer : (i j : BlockId) → Contains ids i → Contains ids j → target i ≡ Merge → Touch shape j i → level_of j ≡ level_of i + 1 → target j ≡ Merge

-- ---- which new leaf stands where an old one stood

abbrev pub Follows : Target → BlockId → BlockId → Type 0
Follows Keep i a = a ≡ i
Follows Refine i a = (octant : ℕ) × (octant < 8) × (a ≡ child_of i octant)
Follows Merge i a = a ≡ parent_of i

-- a new leaf with the old leaf where it stands
abbrev pub Comes : List BlockId → (BlockId → Target) → BlockId → BlockId → Type 0
Comes ids target i a = Contains ids i × Follows (target i) i a

-- the parent of an octet comes of the first of it alone
first_heirs : (i : BlockId) → octant_of i ≡ 0 → heirs_by Merge i ≡ parent_of i ∷ []
first_heirs i first = cond-true (octant_of i == 0) (parent_of i ∷ []) [] (eq-eqb (octant_of i) 0 first)

later_heirs : (i : BlockId) → 0 < octant_of i → heirs_by Merge i ≡ []
later_heirs i later = cond-false (octant_of i == 0) (parent_of i ∷ []) [] (ne_eqb (octant_of i) 0 (λ e. omega arith))

-- what comes of a merging leaf: it is the first of its octet, and its parent comes of it
merging_heir_cases : (i a : BlockId) → Contains (heirs_by Merge i) a → (octant_of i ≡ 0) × (a ≡ parent_of i)
merging_heir_cases i a has = by (cases_Bool (octant_of i == 0))
  where
    by : ((octant_of i == 0) ≡ true) ⊎ ((octant_of i == 0) ≡ false) → (octant_of i ≡ 0) × (a ≡ parent_of i)
    by (inl first) = (eqb-true (octant_of i) 0 first, Contains-one_cases (parent_of i) a (rw first at has))
    by (inr later) = absurd (Contains-none a (rw later at has))

follows_from_heirs : (t : Target) (i a : BlockId) → Contains (heirs_by t i) a → Follows t i a
follows_from_heirs Keep i a has = Contains-one_cases i a has
follows_from_heirs Refine i a has = Contains-child_cases i a has
follows_from_heirs Merge i a has = (merging_heir_cases i a has).1

-- a new leaf comes of an old one
pub comes_of : (ids : List BlockId) (target : BlockId → Target) (a : BlockId) → Contains (heirs_in target ids) a → (i : BlockId) × Comes ids target i a
comes_of ids target a has =
    let found = Contains-flat_map_cases (λ (i : BlockId). heirs_by (target i) i) ids a has in
    (found.0, (found.1, follows_from_heirs (target found.0) found.0 a found.2))

-- and what stands where an old leaf stood is a new leaf
pub heir_from_follows : (shape : Shape) (levels : ℕ) (ids : List BlockId) (target : BlockId → Target) (i a : BlockId)
    → IsSound shape levels ids target → Comes ids target i a → Contains (heirs_in target ids) a
heir_from_follows shape levels ids target i a sound comes = by (target i) refl comes.1
  where
    in' : (k : BlockId) (t : Target) → Contains ids k → target k ≡ t → Contains (heirs_by t k) a → Contains (heirs_in target ids) a
    in' k t has is heir = Contains-flat_map (λ (i : BlockId). heirs_by (target i) i) ids k a has (subst (λ u. Contains (heirs_by u k) a) (sym is) heir)

    by : (t : Target) → target i ≡ t → Follows t i a → Contains (heirs_in target ids) a
    by Keep is same = in' i Keep comes.0 is (subst (λ b. Contains (i ∷ []) b) (sym same) (Contains-one i))
    by Refine is (octant, small, child) = in' i Refine comes.0 is (subst (λ b. Contains (children_of i) b) (sym child) (Contains-child i octant small))
    by Merge is parent =
        let octet : IsInOctet ids target i = sound.octets i comes.0 is in
        let first : BlockId = child_of (parent_of i) 0 in
        let own : parent_of first ≡ a = parent_of-child (parent_of i) 0 ∙ sym parent in
        in' first Merge (octet.leaves 0 (omega arith)) (octet.merge 0 (omega arith))
        (subst (λ xs. Contains xs a) (sym (first_heirs first (octant_of-child (parent_of i) 0))) (subst (λ b. Contains (parent_of first ∷ []) b) own (Contains-one (parent_of first))))

-- balanced leaves, and what becomes of them
pub record IsRegridded (shape : Shape) (levels : ℕ) (ids : List BlockId) (target : BlockId → Target) : Type 0 where
  pub few : levels ≤ 4
  pub before : AreBalancedLeaves shape levels ids
  pub sound : IsSound shape levels ids target

-- ---- levels

-- the level of a new leaf by that of the old one
abbrev Shifted : Target → ℕ → ℕ → Type 0
Shifted Keep old new = new ≡ old
Shifted Refine old new = new ≡ old + 1
Shifted Merge old new = new + 1 ≡ old

shifted : (shape : Shape) (levels : ℕ) (ids : List BlockId) (target : BlockId → Target) (i a : BlockId)
    → IsSound shape levels ids target → Comes ids target i a → Shifted (target i) (level_of i) (level_of a)
shifted shape levels ids target i a sound comes = by (target i) refl comes.1
  where
    by : (t : Target) → target i ≡ t → Follows t i a → Shifted t (level_of i) (level_of a)
    by Keep is same = ap level_of same
    by Refine is (octant, small, child) = ap level_of child ∙ level-child i octant
    by Merge is parent = ap (λ b. level_of b + 1) parent ∙ level-parent i (sound.octets i comes.0 is).child

-- ---- names

-- what is true of each old leaf, of its children if it is refined and of its parent if it merges, is true of each new leaf
heirs_All : (shape : Shape) (levels : ℕ) (ids : List BlockId) (target : BlockId → Target) (P : BlockId → Type 0) → IsRegridded shape levels ids target
    → ((i : BlockId) → Contains ids i → P i)
    → ((i : BlockId) (octant : ℕ) → Contains ids i → level_of i < levels → octant < 8 → P (child_of i octant))
    → ((i : BlockId) → Contains ids i → IsInOctet ids target i → P (parent_of i))
    → All P (heirs_in target ids)
heirs_All shape levels ids target P is old children parents =
    All-from_Contains P (heirs_in target ids) (λ a has. let from = comes_of ids target a has in by from.0 a from.1.0 (target from.0) refl from.1.1)
  where
    by : (i a : BlockId) → Contains ids i → (t : Target) → target i ≡ t → Follows t i a → P a
    by i a has Keep e same = subst P (sym same) (old i has)
    by i a has Refine e (octant, small, child) = subst P (sym child) (children i octant has (is.sound.room i has e) small)
    by i a has Merge e parent = subst P (sym parent) (parents i has (is.sound.octets i has e))

-- new leaves have names
pub heirs_named : (shape : Shape) (levels : ℕ) (ids : List BlockId) (target : BlockId → Target) → IsRegridded shape levels ids target → All IsId (heirs_in target ids)
heirs_named shape levels ids target is =
    heirs_All shape levels ids target IsId is named
    (λ i octant has deep small. IsId-child i octant (named i has) (omega (arith, is.few)) small)
    (λ i has octet. IsId-parent (parent_of i) (octant_of i) (subst IsId octet.child (named i has)))
  where
    named : (i : BlockId) → Contains ids i → IsId i
    named i has = All-contains IsId ids i is.before.named has

-- of roots of the domain
pub heirs_in_shape : (shape : Shape) (levels : ℕ) (ids : List BlockId) (target : BlockId → Target) → IsRegridded shape levels ids target → All (InShape shape) (heirs_in target ids)
heirs_in_shape shape levels ids target is =
    heirs_All shape levels ids target (InShape shape) is rooted (λ i octant has deep small. rooted i has) (λ i has octet. rooted i has)
  where
    rooted : (i : BlockId) → Contains ids i → InShape shape i
    rooted i has = All-contains (InShape shape) ids i is.before.in_shape has

-- and lie at most at the finest level
pub heirs_shallow : (shape : Shape) (levels : ℕ) (ids : List BlockId) (target : BlockId → Target) → IsRegridded shape levels ids target
    → All (λ i. level_of i ≤ levels) (heirs_in target ids)
heirs_shallow shape levels ids target is =
    heirs_All shape levels ids target (λ i. level_of i ≤ levels) is low
    (λ i octant has deep small. omega (arith, level-child i octant))
    (λ i has octet. omega (arith, low i has, level-parent i octet.child))
  where
    low : (i : BlockId) → Contains ids i → level_of i ≤ levels
    low i has = All-contains (λ i. level_of i ≤ levels) ids i is.before.shallow has

-- ---- places in space

-- a property that a cube has with each cube in it, and that each block above the last level has with one of its children
record IsSpread (shape : Shape) (P : Cube → Type 0) : Type 0 where
  up : (c d : Cube) → Within c d → P c → P d
  down : (i : BlockId) → level_of i < 4 → P (box_of shape i) → (octant : ℕ) × (octant < 8) × P (box_of shape (child_of i octant))

Holds-spread : (shape : Shape) (v : Voxel) → IsSpread shape (λ c. Holds c v)
Holds-spread shape v = record { up = λ c d within holds. Holds-within c d v within holds; down = λ i deep holds. child_holding shape i v deep holds }

Meet-spread : (shape : Shape) (e : Cube) → IsSpread shape (λ c. Meet shape c e)
Meet-spread shape e = record { up = λ c d within meets. Meet-within shape c d e within meets; down = λ i deep meets. child_meeting shape i e deep meets }

-- of the old leaves where a new leaf stood, one has such a property with it
old_with : (shape : Shape) (levels : ℕ) (ids : List BlockId) (target : BlockId → Target) (P : Cube → Type 0) (a : BlockId)
    → IsRegridded shape levels ids target → IsSpread shape P → Contains (heirs_in target ids) a → P (box_of shape a)
    → (i : BlockId) × Comes ids target i a × P (box_of shape i)
old_with shape levels ids target P a is spread has here = let from = comes_of ids target a has in by from.0 from.1 (target from.0) refl from.1.1
  where
    by : (i : BlockId) → Comes ids target i a → (t : Target) → target i ≡ t → Follows t i a → (i : BlockId) × Comes ids target i a × P (box_of shape i)
    by i comes Keep e same = (i, comes, subst (λ b. P (box_of shape b)) same here)
    by i comes Refine e (octant, small, child) = (
      i,
      comes,
      spread.up (box_of shape (child_of i octant)) (box_of shape i) (child_within shape i octant small) (subst (λ b. P (box_of shape b)) child here),
    )
    by i comes Merge e parent =
        let octet : IsInOctet ids target i = is.sound.octets i comes.0 e in
        let low : level_of i ≤ levels = All-contains (λ i. level_of i ≤ levels) ids i is.before.shallow comes.0 in
        let one = spread.down (parent_of i) (omega (arith, is.few, low, level-parent i octet.child)) (subst (λ b. P (box_of shape b)) parent here) in
        let k : BlockId = child_of (parent_of i) one.0 in
        let own : a ≡ parent_of k = parent ∙ sym (parent_of-child (parent_of i) one.0) in
        (k, (octet.leaves one.0 one.1, subst (λ t. Follows t k a) (sym (octet.merge one.0 one.1)) own), one.2)

-- and of the new leaves where an old leaf stood
new_with : (shape : Shape) (levels : ℕ) (ids : List BlockId) (target : BlockId → Target) (P : Cube → Type 0) (i : BlockId)
    → IsRegridded shape levels ids target → IsSpread shape P → Contains ids i → P (box_of shape i)
    → (a : BlockId) × Comes ids target i a × P (box_of shape a)
new_with shape levels ids target P i is spread has here = by (target i) refl
  where
    comes : (t : Target) (a : BlockId) → target i ≡ t → Follows t i a → Comes ids target i a
    comes t a e follows = (has, subst (λ u. Follows u i a) (sym e) follows)

    by : (t : Target) → target i ≡ t → (a : BlockId) × Comes ids target i a × P (box_of shape a)
    by Keep e = (i, comes Keep i e refl, here)
    by Refine e =
        let one = spread.down i (omega (arith, is.few, is.sound.room i has e)) here in
        (child_of i one.0, comes Refine (child_of i one.0) e (one.0, one.1, refl), one.2)
    by Merge e =
        let octet : IsInOctet ids target i = is.sound.octets i has e in
        let own : BlockId = child_of (parent_of i) (octant_of i) in (
          parent_of i,
          comes Merge (parent_of i) e refl,
          spread.up (box_of shape own) (box_of shape (parent_of i)) (child_within shape (parent_of i) (octant_of i) octet.octal) (subst (λ b. P (box_of shape b)) octet.child here),
        )

-- ---- tiling

one_heir : (shape : Shape) (t : Target) (i a b : BlockId) (v : Voxel) → Follows t i a → Follows t i b → Holds (box_of shape a) v → Holds (box_of shape b) v → a ≡ b
one_heir shape Keep i a b v p q h k = p ∙ sym q
one_heir shape Refine i a b v (octant, small, child) (octant', small', child') h k =
    let holds : Holds (box_of shape (child_of i octant)) v = subst (λ c. Holds (box_of shape c) v) child h in
    let holds' : Holds (box_of shape (child_of i octant')) v = subst (λ c. Holds (box_of shape c) v) child' k in
    child ∙ ap (child_of i) (child_is_one shape i v octant octant' small small' holds holds') ∙ sym child'
one_heir shape Merge i a b v p q h k = p ∙ sym q

pub heirs_tile : (shape : Shape) (levels : ℕ) (ids : List BlockId) (target : BlockId → Target) → IsRegridded shape levels ids target → Tiles shape (heirs_in target ids)
heirs_tile shape levels ids target is = record { covered = covered; apart = apart }
  where
    tiles : Tiles shape ids
    tiles = is.before.tiling

    covered : (v : Voxel) → InDomain shape v → (a : BlockId) × Contains (heirs_in target ids) a × Holds (box_of shape a) v
    covered v inside =
        let old = tiles.covered v inside in
        let new = new_with shape levels ids target (λ c. Holds c v) old.0 is (Holds-spread shape v) old.1 old.2 in
        (new.0, heir_from_follows shape levels ids target old.0 new.0 is.sound new.1, new.2)

    apart : (v : Voxel) (a b : BlockId) → Contains (heirs_in target ids) a → Contains (heirs_in target ids) b → Holds (box_of shape a) v → Holds (box_of shape b) v → a ≡ b
    apart v a b p q h k =
        let i = old_with shape levels ids target (λ c. Holds c v) a is (Holds-spread shape v) p h in
        let j = old_with shape levels ids target (λ c. Holds c v) b is (Holds-spread shape v) q k in
        let same : i.0 ≡ j.0 = tiles.apart v i.0 j.0 i.1.0 j.1.0 i.2 j.2 in
        one_heir shape (target i.0) i.0 a b v i.1.1 (subst (λ l. Follows (target l) l b) (sym same) j.1.1) h k

-- ---- balance

same_shift : (t : Target) (old a b : ℕ) → Shifted t old a → Shifted t old b → a ≤ b + 1
same_shift Keep old a b p q = omega arith
same_shift Refine old a b p q = omega arith
same_shift Merge old a b p q = omega arith

-- leaves that touched stay balanced
touching_shift : (shape : Shape) (levels : ℕ) (ids : List BlockId) (target : BlockId → Target) (i j : BlockId) (a b : ℕ) → IsRegridded shape levels ids target
    → Contains ids i → Contains ids j → Touch shape i j → Shifted (target i) (level_of i) a → Shifted (target j) (level_of j) b → a ≤ b + 1
touching_shift shape levels ids target i j a b is has has' touch p q = by (target i) (target j) refl refl p q
  where
    near : level_of i ≤ level_of j + 1
    near = is.before.balanced i j has has' touch

    refines : target i ≡ Refine → level_of i ≡ level_of j + 1 → target j ≡ Refine
    refines e above = is.sound.forced j i has' has e touch above

    merges_too : target j ≡ Merge → level_of i ≡ level_of j + 1 → target i ≡ Merge
    merges_too e above = is.sound.finer j i has' has e touch above

    stays : target j ≡ Merge → target i ≡ Refine → level_of i ≡ level_of j → ⊥
    stays e e' level = is.sound.stays j i has' has e e' touch level

    keep_merge : target i ≡ Keep → target j ≡ Merge → level_of i ≡ level_of j + 1 → ⊥
    keep_merge e e' above = let wrong : Keep ≡ Merge = sym e ∙ merges_too e' above in cc

    refine_keep : target i ≡ Refine → target j ≡ Keep → level_of i ≡ level_of j + 1 → ⊥
    refine_keep e e' above = let wrong : Keep ≡ Refine = sym e' ∙ refines e above in cc

    refine_merge : target i ≡ Refine → target j ≡ Merge → level_of i ≡ level_of j + 1 → ⊥
    refine_merge e e' above = let wrong : Refine ≡ Merge = sym e ∙ merges_too e' above in cc

    by : (t u : Target) → target i ≡ t → target j ≡ u → Shifted t (level_of i) a → Shifted u (level_of j) b → a ≤ b + 1
    by Keep Keep e e' p q = omega (arith, near)
    by Keep Refine e e' p q = omega (arith, near)
    by Keep Merge e e' p q =
        elim (cases_lt (level_of j) (level_of i)) [ inl less ↦ absurd (keep_merge e e' (omega (arith, near))) | inr more ↦ omega (arith, near) ]
    by Refine Keep e e' p q =
        elim (cases_lt (level_of j) (level_of i)) [ inl less ↦ absurd (refine_keep e e' (omega (arith, near))) | inr more ↦ omega (arith, near) ]
    by Refine Refine e e' p q = omega (arith, near)
    by Refine Merge e e' p q =
        elim (cases_order (level_of i) (level_of j)) [
          | inl same ↦ absurd (stays e' e same)
          | inr (inl less) ↦ omega (arith, near)
          | inr (inr more) ↦ absurd (refine_merge e e' (omega (arith, near)))
        ]
    by Merge Keep e e' p q = omega (arith, near)
    by Merge Refine e e' p q = omega (arith, near)
    by Merge Merge e e' p q = omega (arith, near)

pub heirs_balanced : (shape : Shape) (levels : ℕ) (ids : List BlockId) (target : BlockId → Target) → IsRegridded shape levels ids target → IsBalanced shape (heirs_in target ids)
heirs_balanced shape levels ids target is a b has has' touch =
    let i = old_with shape levels ids target (λ c. Meet shape c (box_of shape b)) a is (Meet-spread shape (box_of shape b)) has touch.1 in
    let j = old_with shape levels ids target (λ c. Meet shape c (box_of shape i.0)) b is (Meet-spread shape (box_of shape i.0)) has' (Meet_sym shape (box_of shape i.0) (box_of shape b) i.2) in
    by i.0 j.0 i.1 j.1 (Meet_sym shape (box_of shape j.0) (box_of shape i.0) j.2) (cases_Bool (id_eq i.0 j.0))
  where
    by : (i j : BlockId) → Comes ids target i a → Comes ids target j b → Meet shape (box_of shape i) (box_of shape j) → (id_eq i j ≡ true) ⊎ (id_eq i j ≡ false) → level_of a ≤ level_of b + 1
    by i j from from' meets (inl equal) =
        let same : i ≡ j = (id_eq_is_equal i j).0 equal in
        let second : Shifted (target i) (level_of i) (level_of b) =
        subst (λ k. Shifted (target k) (level_of k) (level_of b)) (sym same) (shifted shape levels ids target j b is.sound from') in
        same_shift (target i) (level_of i) (level_of a) (level_of b) (shifted shape levels ids target i a is.sound from) second
    by i j from from' meets (inr differ) =
        touching_shift shape levels ids target i j (level_of a) (level_of b) is from.0 from'.0
        (λ same. both_ways (id_eq i j) differ ((id_eq_is_equal i j).1 same), meets)
        (shifted shape levels ids target i a is.sound from) (shifted shape levels ids target j b is.sound from')

-- ---- order

children_rise : (i : BlockId) → AllPairs IsBefore (children_of i)
children_rise i = AllPairs-from_fn IsBefore (child_of i) 8 (λ k l less. before_from_precedes (child_of i k) (child_of i l) (children_part i k l less))

-- the new leaves where one old leaf stood rise
heirs_by_rise : (t : Target) (i : BlockId) → AllPairs IsBefore (heirs_by t i)
heirs_by_rise Keep i = AllPairs-one IsBefore i
heirs_by_rise Refine i = children_rise i
heirs_by_rise Merge i =
    cond_both (octant_of i == 0) (parent_of i ∷ []) [] (AllPairs IsBefore) (λ _. AllPairs-one IsBefore (parent_of i)) (λ _. AllPairs-nil IsBefore)

-- a new leaf precedes what the old leaf preceded, or that is a later leaf of the same octet, so that nothing comes of it
heir_precedes : (shape : Shape) (levels : ℕ) (ids : List BlockId) (target : BlockId → Target) (i j a : BlockId) → IsRegridded shape levels ids target
    → Contains ids i → Contains ids j → Precedes i j → Contains (heirs_by (target i) i) a → Precedes a j ⊎ (heirs_by (target j) j ≡ [])
heir_precedes shape levels ids target i j a is has has' part heir = by (target i) refl heir
  where
    later : IsInOctet ids target i → LiesLater (parent_of i) j → heirs_by (target j) j ≡ []
    later octet (octant, some, begins) =
        let p : BlockId = parent_of i in
        let named : IsId j = All-contains IsId ids j is.before.named has' in
        let digits : j.digits ≡ p.digits ++ octant ∷ begins.1.0 = begins.1.1 ∙ append_assoc p.digits (octant ∷ []) begins.1.0 in
        let rest : All (λ o. o < 8) (octant ∷ begins.1.0) = All-end (λ o. o < 8) p.digits (octant ∷ begins.1.0) (subst (All (λ o. o < 8)) digits named.octal) in
        let small : octant < 8 = All-head (λ o. o < 8) octant begins.1.0 rest in
        let same : child_of p octant ≡ j = leaves_part shape ids (child_of p octant) j is.before.tiling (octet.leaves octant small) has' named begins in
        let merge : target j ≡ Merge = subst (λ k. target k ≡ Merge) same (octet.merge octant small) in
        let place : octant_of j ≡ octant = sym (ap octant_of same) ∙ octant_of-child p octant in
        subst (λ t. heirs_by t j ≡ []) (sym merge) (later_heirs j (omega arith))

    parent : IsInOctet ids target i → (octant_of i ≡ 0) × (a ≡ parent_of i) → Precedes a j ⊎ (heirs_by (target j) j ≡ [])
    parent octet (first, own) =
        let child : i ≡ child_of (parent_of i) 0 = octet.child ∙ ap (child_of (parent_of i)) first in
        elim (parent_precedes (parent_of i) j (subst (λ k. Precedes k j) child part)) [
          | inl precedes ↦ inl (subst (λ k. Precedes k j) (sym own) precedes)
          | inr lies ↦ inr (later octet lies)
        ]

    by : (t : Target) → target i ≡ t → Contains (heirs_by t i) a → Precedes a j ⊎ (heirs_by (target j) j ≡ [])
    by Keep e in' = inl (subst (λ k. Precedes k j) (sym (Contains-one_cases i a in')) part)
    by Refine e in' =
        let child = Contains-child_cases i a in' in
        inl (subst (λ k. Precedes k j) (sym child.2) (child_precedes i j child.0 part))
    by Merge e in' = parent (is.sound.octets i has e) (merging_heir_cases i a in')

-- what precedes an old leaf precedes the new leaves where it stood
precedes_heir : (shape : Shape) (levels : ℕ) (ids : List BlockId) (target : BlockId → Target) (a j b : BlockId) → IsRegridded shape levels ids target
    → Contains ids j → Precedes a j → Contains (heirs_by (target j) j) b → Precedes a b
precedes_heir shape levels ids target a j b is has part heir = by (target j) refl heir
  where
    parent : IsInOctet ids target j → (octant_of j ≡ 0) × (b ≡ parent_of j) → Precedes a b
    parent octet (first, own) =
        let child : j ≡ child_of (parent_of j) 0 = octet.child ∙ ap (child_of (parent_of j)) first in
        subst (Precedes a) (sym own) (precedes_parent a (parent_of j) (subst (Precedes a) child part))

    by : (t : Target) → target j ≡ t → Contains (heirs_by t j) b → Precedes a b
    by Keep e in' = subst (Precedes a) (sym (Contains-one_cases j b in')) part
    by Refine e in' = let child = Contains-child_cases j b in' in subst (Precedes a) (sym child.2) (precedes_child a j child.0 part)
    by Merge e in' = parent (is.sound.octets j has e) (merging_heir_cases j b in')

-- the new leaves where an old leaf stood stand before those where a later one stood
heirs_before : (shape : Shape) (levels : ℕ) (ids : List BlockId) (target : BlockId → Target) (i j : BlockId) → IsRegridded shape levels ids target
    → Contains ids i → Contains ids j → IsBefore i j → AllBefore IsBefore (heirs_by (target i) i) (heirs_by (target j) j)
heirs_before shape levels ids target i j is has has' before a b p q = by (before_cases i j before)
  where
    at : Precedes a j ⊎ (heirs_by (target j) j ≡ []) → IsBefore a b
    at (inl part) = before_from_precedes a b (precedes_heir shape levels ids target a j b is has' part q)
    at (inr none) = absurd (Contains-none b (subst (λ xs. Contains xs b) none q))

    by : Begins i j ⊎ Precedes i j → IsBefore a b
    by (inl begins) =
        let same : i ≡ j = leaves_part shape ids i j is.before.tiling has has' (All-contains IsId ids j is.before.named has') begins in
        absurd (not_before_itself j (subst (λ k. IsBefore k j) same before))
    by (inr part) = at (heir_precedes shape levels ids target i j a is has has' part p)

pub heirs_rise : (shape : Shape) (levels : ℕ) (ids : List BlockId) (target : BlockId → Target) → IsRegridded shape levels ids target → AllPairs IsBefore (heirs_in target ids)
heirs_rise shape levels ids target is =
    AllPairs-flat_map IsBefore (λ (i : BlockId). heirs_by (target i) i) ids (λ i. heirs_by_rise (target i) i)
    (λ k l d less below. heirs_before shape levels ids target (get_or ids k d) (get_or ids l d) is
    (Contains-get_or ids k d (omega arith)) (Contains-get_or ids l d below) (is.before.rising k l d less below))

-- the new leaves are balanced leaves again
pub heirs_are_balanced : (shape : Shape) (levels : ℕ) (ids : List BlockId) (target : BlockId → Target) → IsRegridded shape levels ids target
    → AreBalancedLeaves shape levels (heirs_in target ids)
heirs_are_balanced shape levels ids target is = record {
  tiling = heirs_tile shape levels ids target is;
  named = heirs_named shape levels ids target is;
  in_shape = heirs_in_shape shape levels ids target is;
  rising = heirs_rise shape levels ids target is;
  shallow = heirs_shallow shape levels ids target is;
  balanced = heirs_balanced shape levels ids target is;
}
