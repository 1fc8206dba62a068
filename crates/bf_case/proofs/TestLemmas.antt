-- What the tests of boxes and of ids say.
use Rattle.std.proofs.Common.{◌≡◌, ℕ, ◌+◌, Bool, true, false, not, ◌&&◌, List, [], ◌∷◌, ◌⊎◌, inl, inr, Contains, Decides, filter, refl, ◌∙◌}
use Rattle.std.specs.Prelude.{nat_le, nat_lt}
use Rattle.std.specs.List.{list_any}
use Rattle.std.proofs.lemmas.Bool.{cases_Bool, cond-false, both_ways, or_left, or_right, or_cases, false≢true}
use Rattle.std.proofs.lemmas.Bool.Decides.{Decides-ltb, Decides-and, Decides-not, Decides-like}
use Rattle.bf_id.specs.declared.shape.Shape.{Shape}
use Rattle.bf_id.specs.Cube.{Cube, Voxel, Spans, Holds, spans, holds}
use Rattle.bf_id.specs.Axis.{MeetsOn, meets_on}
use Rattle.bf_id.proofs.Axes.{Decides-leb, meets_on_decides}
use Rattle.bf_id.specs.Meeting.{Meet, meet}
use Rattle.bf_id.specs.Shape.{axis_x, axis_y, axis_z}
use Rattle.bf_id.specs.Id.{BlockId, box_of, id_eq, Touch, touches}
use Rattle.bf_id.proofs.Boxes.{id_eq_is_equal}
use Rattle.bf_id.proofs.Tilings.{Contains-head, Contains-tail, Contains-cons_cases, Contains-none}

pub spans_decides : (low length u : ℕ) → Decides (spans low length u) (Spans low length u)
spans_decides low length u = Decides-and (nat_le low u) (nat_lt u (low + length)) (Decides-leb low u) (Decides-ltb u (low + length))

pub holds_decides : (c : Cube) (v : Voxel) → Decides (holds c v) (Holds c v)
holds_decides c v =
    let x = spans c.x c.edge v.x in
    let y = spans c.y c.edge v.y in
    let z = spans c.z c.edge v.z in
    Decides-like (holds c v)
    (λ (all : (Spans c.x c.edge v.x × Spans c.y c.edge v.y) × Spans c.z c.edge v.z). record { along_x = all.0.0; along_y = all.0.1; along_z = all.1 })
    (λ (h : Holds c v). ((h.along_x, h.along_y), h.along_z))
    (Decides-and (x && y) z (Decides-and x y (spans_decides c.x c.edge v.x) (spans_decides c.y c.edge v.y)) (spans_decides c.z c.edge v.z))

pub meet_decides : (shape : Shape) (c d : Cube) → Decides (meet shape c d) (Meet shape c d)
meet_decides shape c d =
    let x = meets_on (axis_x shape) c.x c.edge d.x d.edge in
    let y = meets_on (axis_y shape) c.y c.edge d.y d.edge in
    let z = meets_on (axis_z shape) c.z c.edge d.z d.edge in
    Decides-like (meet shape c d)
    (λ (all : (MeetsOn (axis_x shape) c.x c.edge d.x d.edge × MeetsOn (axis_y shape) c.y c.edge d.y d.edge) × MeetsOn (axis_z shape) c.z c.edge d.z d.edge). record { along_x = all.0.0; along_y = all.0.1; along_z = all.1 })
    (λ (h : Meet shape c d). ((h.along_x, h.along_y), h.along_z))
    (Decides-and (x && y) z
    (Decides-and x y (meets_on_decides (axis_x shape) c.x c.edge d.x d.edge) (meets_on_decides (axis_y shape) c.y c.edge d.y d.edge))
    (meets_on_decides (axis_z shape) c.z c.edge d.z d.edge))

pub touches_decides : (shape : Shape) (i j : BlockId) → Decides (touches shape i j) (Touch shape i j)
touches_decides shape i j =
    Decides-and (not (id_eq i j)) (meet shape (box_of shape i) (box_of shape j))
    (Decides-not (id_eq i j) (id_eq_is_equal i j)) (meet_decides shape (box_of shape i) (box_of shape j))

-- ---- lists

-- an element that passes a test
abbrev pub Passes : {X : Type 0} → (X → Bool) → List X → Type 0
Passes {X} test xs = (x : X) × Contains xs x × (test x ≡ true)

-- some element passes where the test of the list says so
pub passes_from_any : {X : Type 0} (test : X → Bool) (xs : List X) → list_any test xs ≡ true → Passes test xs
passes_from_any test [] e = absurd (false≢true e)
passes_from_any test (x ∷ xs) e = by (or_cases (test x) (list_any test xs) e) (passes_from_any test xs)
  where
    by : (test x ≡ true) ⊎ (list_any test xs ≡ true) → (list_any test xs ≡ true → Passes test xs) → Passes test (x ∷ xs)
    by (inl first) later = (x, Contains-head x xs, first)
    by (inr rest) later = let found = later rest in (found.0, Contains-tail x xs found.0 found.1, found.2)

pub any_from_passes : {X : Type 0} (test : X → Bool) (xs : List X) (x : X) → Contains xs x → test x ≡ true → list_any test xs ≡ true
any_from_passes test [] x has is = absurd (Contains-none x has)
any_from_passes test (y ∷ xs) x has is = by (Contains-cons_cases y xs x has) (λ rest. any_from_passes test xs x rest is)
  where
    by : (x ≡ y) ⊎ Contains xs x → (Contains xs x → list_any test xs ≡ true) → list_any test (y ∷ xs) ≡ true
    by (inl same) later = or_left (test y) (list_any test xs) (rw same at is)
    by (inr rest) later = or_right (test y) (list_any test xs) (later rest)

-- what a filter keeps is in the list and passes
pub Contains-filter_cases : {X : Type 0} (test : X → Bool) (xs : List X) (x : X) → Contains (filter test xs) x → Contains xs x × (test x ≡ true)
Contains-filter_cases test [] x has = absurd (Contains-none x has)
Contains-filter_cases test (y ∷ xs) x has = by (cases_Bool (test y)) (Contains-filter_cases test xs x)
  where
    by : (test y ≡ true) ⊎ (test y ≡ false) → (Contains (filter test xs) x → Contains xs x × (test x ≡ true)) → Contains (y ∷ xs) x × (test x ≡ true)
    by (inl passed) later = kept (Contains-cons_cases y (filter test xs) x (rw passed at has))
      where
        kept : (x ≡ y) ⊎ Contains (filter test xs) x → Contains (y ∷ xs) x × (test x ≡ true)
        kept (inl same) = (rw same (Contains-head y xs), rw same passed)
        kept (inr rest) = let found = later rest in (Contains-tail y xs x found.0, found.1)
    by (inr failed) later = let found = later (rw failed at has) in (Contains-tail y xs x found.0, found.1)

-- and a filter keeps what passes
pub Contains-filter : {X : Type 0} (test : X → Bool) (xs : List X) (x : X) → Contains xs x → test x ≡ true → Contains (filter test xs) x
Contains-filter test [] x has is = absurd (Contains-none x has)
Contains-filter test (y ∷ xs) x has is = by (cases_Bool (test y)) (Contains-cons_cases y xs x has) (λ rest. Contains-filter test xs x rest is)
  where
    by : (test y ≡ true) ⊎ (test y ≡ false) → (x ≡ y) ⊎ Contains xs x → (Contains xs x → Contains (filter test xs) x) → Contains (filter test (y ∷ xs)) x
    by (inl passed) (inl same) later = rw passed (rw same (Contains-head y (filter test xs)))
    by (inl passed) (inr rest) later = rw passed (Contains-tail y (filter test xs) x (later rest))
    by (inr failed) (inl same) later = absurd (both_ways (test y) failed (rw same at is))
    by (inr failed) (inr rest) later = rw failed (later rest)

-- a test that no element passes keeps nothing
pub filter_none : {X : Type 0} (test : X → Bool) (xs : List X) → ((x : X) → test x ≡ false) → filter test xs ≡ []
filter_none test [] none = refl
filter_none test (x ∷ xs) none = cond-false (test x) (x ∷ filter test xs) (filter test xs) (none x) ∙ filter_none test xs none
