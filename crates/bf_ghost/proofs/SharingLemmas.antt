-- Which face two blocks share, by the search for it.
use Rattle.std.proofs.Common.{◌≡◌, ℕ, ◌≤◌, arith, List, [], ◌∷◌, Contains, Bool, true, false, Some, None, ◌⊎◌, inl, inr, refl, subst, lit<}
use Rattle.std.specs.Prelude.{find}
use Rattle.std.proofs.lemmas.Bool.{cases_Bool}
use Rattle.bf_face.specs.Face.{all_faces}
use Rattle.bf_face.specs.declared.face.Face.{Face}
use Rattle.bf_face.specs.declared.face.Face.TheVariants.{XLow, XHigh, YLow, YHigh, ZLow, ZHigh}
use Rattle.bf_id.specs.declared.shape.Shape.{Shape}
use Rattle.bf_id.specs.Cube.{Cube, halved, narrowed}
use Rattle.bf_id.specs.Face.{SharesFace}
use Rattle.bf_id.specs.Id.{BlockId, box_of}
use Rattle.bf_id.specs.Shape.{IsShape, root_cube}
use Rattle.bf_id.specs.Sharing.{shared_face, shares_face}
use Rattle.bf_id.proofs.Cubes.{one_face}
use Rattle.bf_id.proofs.Sharing.{shares_face_decides}
use Rattle.bf_case.proofs.ListLemmas.{find_only}

-- what is found passes the test
find_passes : {X : Type 0} (test : X → Bool) (xs : List X) (x : X) → find test xs ≡ Some x → test x ≡ true
find_passes test [] x found = absurd cc
find_passes {X = X} test (y ∷ xs) x found = by (cases_Bool (test y)) (find_passes test xs x)
  where
    by : (test y ≡ true) ⊎ (test y ≡ false) → (find test xs ≡ Some x → test x ≡ true) → test x ≡ true
    by (inl passed) later =
        let first : Some y ≡ Some x = rw passed at found in
        let same : y ≡ x = cc in
        subst (λ (z : X). test z ≡ true) same passed
    by (inr failed) later = later (rw failed at found)

is_a_face : (face : Face) → Contains all_faces face
is_a_face XLow = (0, lit< tt, refl)
is_a_face XHigh = (1, lit< tt, refl)
is_a_face YLow = (2, lit< tt, refl)
is_a_face YHigh = (3, lit< tt, refl)
is_a_face ZLow = (4, lit< tt, refl)
is_a_face ZHigh = (5, lit< tt, refl)

-- the face that is found is shared
pub found_is_shared : (shape : Shape) (c d : Cube) (face : Face) → shared_face shape c d ≡ Some face → SharesFace shape face c d
unfolding shared_face
found_is_shared shape c d face found =
    (shares_face_decides shape face c d).0 (find_passes (λ f. shares_face shape f c d) all_faces face found)

-- a box is no wider than a root
narrowed_shrinks : (c : Cube) (octants : List ℕ) → (narrowed c octants).edge ≤ c.edge
narrowed_shrinks c [] = omega arith
narrowed_shrinks c (octant ∷ octants) = let rest = narrowed_shrinks (halved c octant) octants in omega arith

box_shrinks : (shape : Shape) (i : BlockId) → (box_of shape i).edge ≤ 16
box_shrinks shape i = narrowed_shrinks (root_cube shape i.root) i.digits

-- and the face that two blocks share is found
pub shared_is_found : (shape : Shape) (i j : BlockId) (face : Face) → IsShape shape → SharesFace shape face (box_of shape i) (box_of shape j)
    → shared_face shape (box_of shape i) (box_of shape j) ≡ Some face
unfolding shared_face
shared_is_found shape i j face domain share =
    find_only (λ f. shares_face shape f (box_of shape i) (box_of shape j)) all_faces face (is_a_face face)
    ((shares_face_decides shape face (box_of shape i) (box_of shape j)).1 share)
    (λ f is passes. one_face shape f face (box_of shape i) (box_of shape j) domain (box_shrinks shape i) (box_shrinks shape j)
    ((shares_face_decides shape f (box_of shape i) (box_of shape j)).0 passes) share)

-- where none is shared, none is found
pub none_is_found : (shape : Shape) (c d : Cube) → ((face : Face) → SharesFace shape face c d → ⊥) → shared_face shape c d ≡ None
none_is_found shape c d none = by (shared_face shape c d) refl
  where
    by : (o : _) → shared_face shape c d ≡ o → o ≡ None
    by None is = refl
    by (Some face) is = absurd (none face (found_is_shared shape c d face is))
