-- The pieces of all members tile the domain.
use Rattle.std.proofs.Common.{◌≡◌, ℕ, ◌+◌, ◌<◌, ◌≤◌, Bool, true, false, List, [], ◌∷◌, length, get_or, map, flat_map, Contains, arith, refl, ap, subst, ◌∙◌, suc, zero}
use Rattle.std.specs.List.{count_by}
use Rattle.std.proofs.lemmas.Bool.Decides.{nat_tests}
use Rattle.std.proofs.lemmas.List.{get_or_default}
use Rattle.std.proofs.lemmas.List.Elements.{All-contains}
use Rattle.bf_id.specs.declared.shape.Shape.{Shape}
use Rattle.bf_id.specs.Cube.{Cube, Holds, Voxel, holds}
use Rattle.bf_id.specs.Id.{BlockId, InShape, IsId}
use Rattle.bf_id.specs.Shape.{InDomain}
use Rattle.bf_id.proofs.Boxes.{domain_holds}
use Rattle.bf_id.proofs.Tilings.{Contains-flat_map_cases, Contains-head, Contains-tail}
use Rattle.bf_case.specs.declared.case.Case.{Case}
use Rattle.bf_case.specs.Case.{IsValid}
use Rattle.bf_case.specs.Map.{ids_of}
use Rattle.bf_block.specs.declared.point.Point.{Point}
use Rattle.bf_block.specs.Block.{map_at}
use Rattle.bf_case.proofs.ListLemmas.{Contains-map_cases}
use Rattle.bf_case.proofs.TestLemmas.{holds_decides}
use Rattle.bf_msg.specs.declared.linked_block.LinkedBlock.{LinkedBlock}
use Rattle.bf_parts.specs.Counts.{count_cons, once}
use Rattle.bf_parts.specs.Leaves.{part_of}
use Rattle.bf_program.specs.declared.epoch.Epoch.{Epoch}
use Rattle.bf_forest.specs.declared.local.ForestLocal.{ForestLocal}
use Rattle.bf_forest.specs.declared.setup.Setup.{Setup}
use Rattle.bf_forest.specs.BlockLaws.{model_map, part_each}
use Rattle.bf_forest.specs.ForestLaws.{lawful_forest}
use Rattle.bf_forest.specs.Goods.{IsGood, TileDomain, local_at}
use Rattle.bf_forest.specs.LeafLaws.{all_dealt}
use Rattle.bf_forest.specs.Meanings.{box_in, in_domain, pieces}
use Rattle.bf_forest.specs.ModelBlocks.{blocks_on}
use Rattle.bf_forest.specs.Staging.{point_at}
use Rattle.bf_forest.specs.Setup.{case_of, every_setup_is_valid}

-- WHAT COUNTS TELL: where some pass a test, there is one
pub some_counted : {X : Type 0} (test : X → Bool) (xs : List X) → 1 ≤ count_by test xs → (x : X) × Contains xs x × (test x ≡ true)
some_counted test [] some = absurd (omega (arith, some))
some_counted {X = X} test (x ∷ xs) some = at (test x) refl (some_counted test xs)
  where
    at : (b : Bool) → test x ≡ b → (1 ≤ count_by test xs → (y : X) × Contains xs y × (test y ≡ true)) → (y : X) × Contains (x ∷ xs) y × (test y ≡ true)
    at true passes later = (x, Contains-head x xs, passes)
    at false fails later =
        let counted = count_cons test x xs ∙ ap (λ b. once b + count_by test xs) fails in
        let one = later (omega (arith, some, counted)) in
        (one.0, Contains-tail x xs one.0 one.1, one.2)

-- one that passes counts, and two count twice
pub one_counts : {X : Type 0} (test : X → Bool) (xs : List X) (i : ℕ) (d : X) → i < length xs → test (get_or xs i d) ≡ true → 1 ≤ count_by test xs
one_counts test [] i d within passes = absurd (omega arith)
one_counts test (x ∷ xs) zero d within passes = let counted = count_cons test x xs ∙ ap (λ b. once b + count_by test xs) passes in omega (arith, counted)
one_counts test (x ∷ xs) (suc i) d within passes =
    let counted = count_cons test x xs in
    let later = one_counts test xs i d (omega arith) passes in
    omega (arith, counted, later)

two_count : {X : Type 0} (test : X → Bool) (xs : List X) (i j : ℕ) (d : X) → i < j → j < length xs → test (get_or xs i d) ≡ true → test (get_or xs j d) ≡ true → 2 ≤ count_by test xs
two_count test [] i j d before within first second = absurd (omega arith)
two_count test (x ∷ xs) i zero d before within first second = absurd (omega arith)
two_count test (x ∷ xs) zero (suc j) d before within first second =
    let counted = count_cons test x xs ∙ ap (λ b. once b + count_by test xs) first in
    let later = one_counts test xs j d (omega arith) second in
    omega (arith, counted, later)
two_count test (x ∷ xs) (suc i) (suc j) d before within first second =
    let counted = count_cons test x xs in
    let later = two_count test xs i j d (omega arith) (omega arith) first second in
    omega (arith, counted, later)

-- PIECES lie in the domain
domain_tested : (shape : Shape) (v : Voxel) → InDomain shape v → in_domain shape v ≡ true
domain_tested shape v inside = grind (arith, nat_tests, inside.along_x, inside.along_y, inside.along_z)

part_within : (c : Case) (p : Point) (owner : BlockId → ℕ) (rank : ℕ) (box : Cube) (v : Voxel) → IsValid c → Contains (map box_in (part_of (blocks_on c p) owner rank)) box → Holds box v → InDomain c.roots v
part_within c p owner rank box v valid has inside =
    let P : LinkedBlock → Type 0 = λ b. Holds (box_in b) v → InDomain c.roots v in
    let part : List LinkedBlock = part_of (blocks_on c p) owner rank in
    let of_map = model_map c p valid in
    let block = Contains-map_cases box_in part box has in
    All-contains P part block.0
    (part_each P c p owner rank (λ i leaf its. domain_holds c.roots i v valid.sized.shape (All-contains IsId (ids_of (map_at c p)) i of_map.ids leaf)
    (All-contains (InShape c.roots) (ids_of (map_at c p)) i of_map.in_shape leaf)))
    block.1 (subst (λ (b : Cube). Holds b v) block.2 inside)

-- THE DOMAIN has each of its units in one piece
pub pieces_tile : (setup : Setup) (epoch : Epoch) (round : ℕ) (locals : List ForestLocal) → IsGood setup epoch round locals → TileDomain (case_of setup).roots (flat_map pieces.of_local locals)
pieces_tile setup epoch round locals good = record {
  covered = λ v inside.
      let once = whole v inside in
      let box = some_counted (λ box. holds box v) boxes (omega (arith, once)) in
      (box.0, box.1, (holds_decides box.0 v).0 box.2);
  apart = λ i j d before within v first second.
      let below : i < length boxes = omega (arith, before, within) in
      let once = whole v (lies_within (get_or boxes i d) v (i, below, get_or_default boxes i (get_or boxes i d) d below) first) in
      let twice = two_count (λ box. holds box v) boxes i j d before within ((holds_decides (get_or boxes i d) v).1 first) ((holds_decides (get_or boxes j d) v).1 second) in
      omega (arith, once, twice);
  inside = lies_within;
}
  where
    c : Case
    c = case_of setup

    boxes : List Cube
    boxes = flat_map pieces.of_local locals

    whole : (v : Voxel) → InDomain c.roots v → count_by (λ box. holds box v) boxes ≡ 1
    whole v inside = (lawful_forest setup).pieces.whole epoch round locals v good (domain_tested c.roots v inside)

    lies_within : (box : Cube) (v : Voxel) → Contains boxes box → Holds box v → InDomain c.roots v
    lies_within box v has inside =
        let dealt = all_dealt setup epoch round locals good in
        let its = Contains-flat_map_cases pieces.of_local locals box has in
        let member = Contains-map_cases (local_at c epoch round dealt.0 dealt.1) epoch.members its.0 (subst (λ (ls : List ForestLocal). Contains ls its.0) dealt.2.are its.1) in
        part_within c (point_at c epoch round) dealt.0 member.0 box v (every_setup_is_valid setup)
        (subst (λ (local : ForestLocal). Contains (pieces.of_local local) box) member.2 its.2) inside
