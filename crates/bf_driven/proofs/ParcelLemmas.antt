-- The blocks of a finished run's parcels.
use Rattle.std.proofs.Common.{◌≡◌, ℕ, ◌+◌, Bool, List, [], ◌∷◌, ◌++◌, length, flat_map, Contains, refl, ap, sym, ◌∙◌, arith}
use Rattle.std.specs.Prelude.{Some, IsPermutation}
use Rattle.std.specs.List.{count_by, sum_by}
use Rattle.std.proofs.lemmas.List.Elements.{All-weaker, All-contains, All-contains_itself}
use Rattle.std.proofs.lemmas.List.Sorted.{Contains-permutation, sum_by-IsPermutation, IsPermutation-sym}
use Rattle.std.proofs.lemmas.List.Sums.{sum_by-cons}
use Rattle.bf_id.specs.Id.{id_eq}
use Rattle.bf_id.proofs.Tilings.{Contains-flat_map, Contains-flat_map_cases}
use Rattle.bf_case.specs.Map.{Leaf, cells_at}
use Rattle.bf_block.specs.Block.{BlockValue}
use Rattle.bf_parts.specs.Counts.{count_append}
use Rattle.bf_world.specs.Results.{parcels_of}
use Rattle.bf_forest.specs.declared.local.ForestLocal.{ForestLocal}
use Rattle.bf_msg.specs.declared.linked_block.LinkedBlock.{LinkedBlock}
use Rattle.bf_forest.specs.Leaves.{bare_blocks, times_among, AreLeaves}
use Rattle.bf_forest.specs.Meanings.{forest}
use Rattle.bf_driven.specs.Parcels.{blocks_of}

-- what passes of all parts passes of each
counted_parts : {X Y : Type 0} (test : Y → Bool) (f : X → List Y) (xs : List X) → count_by test (flat_map f xs) ≡ sum_by (λ x. count_by test (f x)) xs
counted_parts test f [] = refl
counted_parts test f (x ∷ xs) =
    count_append test (f x) (flat_map f xs) ∙ ap (λ n. count_by test (f x) + n) (counted_parts test f xs) ∙ sym (sum_by-cons (λ y. count_by test (f y)) x xs)

-- the parcels of all members have their blocks
parcels_have : (members : List ℕ) (locals : List ForestLocal) → length locals ≡ length members
    → blocks_of (parcels_of forest members locals) ≡ flat_map (λ (local : ForestLocal). bare_blocks local.blocks) locals
parcels_have [] [] same = refl
parcels_have [] (local ∷ locals) same = absurd (omega (arith, same))
parcels_have (member ∷ members) [] same = absurd (omega (arith, same))
parcels_have (member ∷ members) (local ∷ locals) same = ap (λ rest. bare_blocks local.blocks ++ rest) (parcels_have members locals (omega (arith, same)))

-- which parcel comes first makes no difference
other_order : (leaves : List Leaf) (parcels others : List (ℕ × List LinkedBlock)) → IsPermutation parcels others → AreLeaves leaves (blocks_of parcels) → AreLeaves leaves (blocks_of others)
other_order leaves parcels others same are = record {
  cells = All-weaker (Contains (blocks_of others)) (λ (b : BlockValue). cells_at leaves b.id ≡ Some b.cells) (λ b has.
      let found = Contains-flat_map_cases (λ (parcel : ℕ × List LinkedBlock). bare_blocks parcel.1) others b has in
      All-contains (λ (x : BlockValue). cells_at leaves x.id ≡ Some x.cells) (blocks_of parcels) b are.cells
      (Contains-flat_map (λ (parcel : ℕ × List LinkedBlock). bare_blocks parcel.1) parcels found.0 b
      (Contains-permutation others parcels found.0 (IsPermutation-sym parcels others same) found.1) found.2)) (blocks_of others) (All-contains_itself (blocks_of others));
  once = All-weaker (λ (leaf : Leaf). times_among (blocks_of parcels) leaf.0 ≡ 1) (λ (leaf : Leaf). times_among (blocks_of others) leaf.0 ≡ 1) (λ leaf one.
      counted_parts (λ (b : BlockValue). id_eq b.id leaf.0) (λ (parcel : ℕ × List LinkedBlock). bare_blocks parcel.1) others
      ∙ sum_by-IsPermutation (λ (parcel : ℕ × List LinkedBlock). times_among (bare_blocks parcel.1) leaf.0) parcels others same
      ∙ sym (counted_parts (λ (b : BlockValue). id_eq b.id leaf.0) (λ (parcel : ℕ × List LinkedBlock). bare_blocks parcel.1) parcels)
      ∙ one) leaves are.once;
}

-- parcels that are those of all members have the leaves that the members have
pub parcels_are : (leaves : List Leaf) (members : List ℕ) (locals : List ForestLocal) (parcels : List (ℕ × List LinkedBlock)) → length locals ≡ length members
    → AreLeaves leaves (flat_map (λ (local : ForestLocal). bare_blocks local.blocks) locals) → IsPermutation (parcels_of forest members locals) parcels
    → AreLeaves leaves (blocks_of parcels)
parcels_are leaves members locals parcels same are moved =
    other_order leaves (parcels_of forest members locals) parcels moved (rw (parcels_have members locals same) are)
