-- Steps of the code that builds the leaves after a regrid.
use Rattle.std.proofs.Common.{◌≡◌, ◌≢◌, ℕ, ◌+◌, ◌-◌, ◌^◌, ◌<◌, Bor, true, false, eqb, List, [], ◌∷◌, ◌++◌, length, take, get_or, map, flat_map, min, inl, inr, refl, sym, ap, subst, ◌∙◌, arith, append_assoc, length-append}
use Rattle.std.specs.List.{range_with_len, zip}
use Rattle.std.proofs.lemmas.Bool.{cases_eq, cond-true, cond-false}
use Rattle.std.proofs.lemmas.Bool.Decides.{nat_tests}
use Rattle.std.proofs.lemmas.Grind.{flat_map-append}
use Rattle.std.proofs.lemmas.List.{append-nil}
use Rattle.std.proofs.lemmas.List.Folds.{flat_map-map}
use Rattle.std.proofs.lemmas.List.FromFn.{map-range_with_len_more}
use Rattle.std.proofs.lemmas.List.Elements.{All-contains, Contains-get_or}
use Rattle.bf_lemmas.proofs.Lists.{same_pairs}
use Rattle.bf_id.specs.Id.{BlockId, child_of, parent_of, octant_of}
use Rattle.bf_cells.specs.Grid.{Grid, filled_with}
use Rattle.bf_cells.specs.Octant.{octant_copy_of}
use Rattle.bf_cells.proofs.GridLemmas.{side-table}
use Rattle.bf_case.specs.declared.case.Case.{Case}
use Rattle.bf_case.specs.declared.target.Target.{Target}
use Rattle.bf_case.specs.declared.target.Target.TheVariants.{Merge}
use Rattle.bf_case.specs.Case.{IsValid}
use Rattle.bf_case.specs.Around.{nothing}
use Rattle.bf_case.specs.Map.{Leaf, ids_of, HasCells, IsMap}
use Rattle.bf_case.specs.Wishes.{wishes_of}
use Rattle.bf_case.specs.Regrid.{target_in, heirs_by, regrid}
use Rattle.bf_case.proofs.ChoiceLemmas.{merging_from_target}
use Rattle.bf_case.proofs.NewCells.{refined_above}
use Rattle.bf_plain.specs.Rebuild.{octant_of_leaf, octants_of, last_of, with_parent, CanPlace, rebuilt, heirs_of_all}
use Rattle.bf_plain.proofs.MergingGrid.{merging_grid, side-merging_grid}
use Rattle.bf_plain.proofs.Octets.{id_at, octet_cells}
use Rattle.bf_plain.proofs.Rebuilding.{last_of-push, IsRebuilt, targeted, length-targeted, get_or-targeted, rebuilt_until, rebuilt-targeted}

-- one more child of a leaf
pub one_octant_more : (leaf : Leaf) (before new : List Leaf) (octant : ℕ) (i : BlockId) (g : Grid)
    → new ≡ before ++ map (octant_of_leaf leaf) (range_with_len 0 octant) → i ≡ child_of leaf.0 octant → g ≡ octant_copy_of leaf.1 octant
    → new ++ (i, g) ∷ [] ≡ before ++ map (octant_of_leaf leaf) (range_with_len 0 (octant + 1))
one_octant_more leaf before new octant i g so_far id cells =
    let named : BlockId → Leaf = λ j. (j, g) in
    let with : Grid → Leaf = λ h. (child_of leaf.0 octant, h) in
    let same : ◌≡◌ {A = Leaf} (i, g) (octant_of_leaf leaf octant) = ap named id ∙ ap with cells in
    ap (λ l. l ++ (i, g) ∷ []) so_far ∙ append_assoc before (map (octant_of_leaf leaf) (range_with_len 0 octant)) ((i, g) ∷ [])
    ∙ ap (λ (l : Leaf). before ++ (map (octant_of_leaf leaf) (range_with_len 0 octant) ++ l ∷ [])) same
    ∙ ap (λ l. before ++ l) (sym (map-range_with_len_more (octant_of_leaf leaf) 0 octant octant (omega arith)))

pub all_octants : (leaf : Leaf) (before new : List Leaf) (octant : ℕ) → new ≡ before ++ map (octant_of_leaf leaf) (range_with_len 0 octant) → octant ≡ 8
    → new ≡ before ++ octants_of leaf
all_octants leaf before new octant so_far all = so_far ∙ ap (λ n. before ++ map (octant_of_leaf leaf) (range_with_len 0 n)) all

-- the parent that a leaf of an octet finds, or adds, has the side of all cells
pub side_of_parent : (side : ℕ) (i : BlockId) (new : List Leaf) → (octant_of i ≢ 0 → (last_of new).1.side ≡ side) → (last_of (with_parent side i new)).1.side ≡ side
side_of_parent side i new sides =
    let added : List Leaf = new ++ (parent_of i, filled_with side 0) ∷ [] in
    elim (cases_eq (octant_of i) 0) [
      | inl first ↦
          let test : eqb (octant_of i) 0 ≡ true = grind (arith, nat_tests) in
          ap (λ l. (last_of l).1.side) (cond-true (eqb (octant_of i) 0) added new test)
          ∙ ap (λ (leaf : Leaf). leaf.1.side) (last_of-push new (parent_of i, filled_with side 0)) ∙ side-table side (λ _ _ _. 0)
      | inr later ↦
          let test : eqb (octant_of i) 0 ≡ false = grind (arith, nat_tests) in
          ap (λ l. (last_of l).1.side) (cond-false (eqb (octant_of i) 0) added new test) ∙ sides later
    ]

-- ---- the loop

-- the leaves with their targets, side by side
targeted_by : (c : Case) (leaves some : List Leaf) → zip some (map (target_in c leaves) (ids_of some)) ≡ map (λ (leaf : Leaf). (leaf, target_in c leaves leaf.0)) some
targeted_by c leaves [] = refl
targeted_by c leaves (leaf ∷ some) = ap (λ l. (leaf, target_in c leaves leaf.0) ∷ l) (targeted_by c leaves some)

pub zip-targets : (c : Case) (leaves : List Leaf) (targets : List Target) → targets ≡ map (target_in c leaves) (ids_of leaves) → zip leaves targets ≡ targeted c leaves
zip-targets c leaves targets are = ap (zip leaves) are ∙ targeted_by c leaves leaves

-- what is known of one more leaf: it can be placed
can_place : (c : Case) (leaves : List Leaf) (n : ℕ) (new : List Leaf) → IsValid c → IsMap c.roots c.side leaves → n < length leaves → IsRebuilt c leaves n new
    → CanPlace c.side (target_in c leaves (id_at leaves n)) (get_or leaves n nothing) new
can_place c leaves n new valid is below so_far = record {
  sized = record { even = valid.sized.even; wide = valid.sized.wide; narrow = valid.sized.narrow };
  fits = (All-contains (HasCells c.side) leaves (get_or leaves n nothing) is.cells (Contains-get_or leaves n nothing below)).fits;
  above = λ target. refined_above c leaves (id_at leaves n) valid.sized.shallow is.ids target;
  below = λ target. (merging_from_target c.roots (ids_of leaves) (wishes_of c leaves) (id_at leaves n) target).deep;
  begun = begun so_far;
  sides = sides so_far;
}
  where
    begun : IsRebuilt c leaves n new → target_in c leaves (id_at leaves n) ≡ Merge → octant_of (id_at leaves n) ≢ 0 → 0 < length new
    begun (inl whole) target later = absurd (later (whole.next below target))
    begun (inr open') target later =
        omega (arith, ap length open'.written, length-append open'.front ((open'.parent, merging_grid c.side (octet_cells leaves open'.parent) open'.octant) ∷ []))

    sides : IsRebuilt c leaves n new → target_in c leaves (id_at leaves n) ≡ Merge → octant_of (id_at leaves n) ≢ 0 → (last_of new).1.side ≡ c.side
    sides (inl whole) target later = absurd (later (whole.next below target))
    sides (inr open') target later =
        ap (λ l. (last_of l).1.side) open'.written
        ∙ ap (λ (leaf : Leaf). leaf.1.side) (last_of-push open'.front (open'.parent, merging_grid c.side (octet_cells leaves open'.parent) open'.octant))
        ∙ side-merging_grid c.side (octet_cells leaves open'.parent) open'.octant

pub can_place_next : (c : Case) (leaves : List Leaf) (targets : List Target) (yielded : List (Leaf × Target)) (leaf : Leaf) (target : Target) (new : List Leaf)
    → IsValid c → IsMap c.roots c.side leaves → targets ≡ map (target_in c leaves) (ids_of leaves)
    → map (λ p. (p.0, p.1)) yielded ≡ take (length yielded) (zip leaves targets)
    → (length yielded < length (zip leaves targets)) × ((leaf, target) ≡ get_or (zip leaves targets) (length yielded) (leaf, target))
    → new ≡ rebuilt c.side yielded → CanPlace c.side target leaf new
can_place_next c leaves targets yielded leaf target new valid is are so_far here built =
    let n = length yielded in
    let pairs = zip-targets c leaves targets are in
    let below : n < length leaves = omega (arith, here.0, ap length pairs, length-targeted c leaves) in
    let begun : yielded ≡ take n (targeted c leaves) = sym (same_pairs yielded) ∙ so_far ∙ ap (take n) pairs in
    let rebuilds : IsRebuilt c leaves n new =
    subst (IsRebuilt c leaves n) (ap (rebuilt c.side) (sym begun) ∙ sym built) (rebuilt_until c leaves n valid is (omega arith)) in
    let pair : ◌≡◌ {A = Leaf × Target} (leaf, target) (get_or leaves n nothing, target_in c leaves (id_at leaves n)) =
    here.1 ∙ ap (λ l. get_or l n (leaf, target)) pairs ∙ get_or-targeted c leaves n (leaf, target) below in
    subst (λ (p : Leaf × Target). CanPlace c.side p.1 p.0 new) (sym pair) (can_place c leaves n new valid is below rebuilds)

pub all_rebuilt : (c : Case) (leaves : List Leaf) (targets : List Target) (yielded : List (Leaf × Target)) → IsValid c → IsMap c.roots c.side leaves
    → targets ≡ map (target_in c leaves) (ids_of leaves) → map (λ p. (p.0, p.1)) yielded ≡ zip leaves targets → rebuilt c.side yielded ≡ regrid c leaves
all_rebuilt c leaves targets yielded valid is are walked =
    ap (rebuilt c.side) (sym (same_pairs yielded) ∙ walked ∙ zip-targets c leaves targets are) ∙ rebuilt-targeted c leaves valid is

-- ---- the count

-- the ids of all that comes of old leaves and their targets, as they are read
abbrev pub heirs_of_read : List (Bor Leaf × Bor Target) → List BlockId
heirs_of_read read = flat_map (λ (pair : Bor Leaf × Bor Target). heirs_by pair.1.now pair.0.now.0) read

pub count_more : (read : List (Bor Leaf × Bor Target)) (leaf : Bor Leaf) (target : Bor Target) (count more sum : ℕ)
    → count ≡ min (length (heirs_of_read read)) (2 ^ 64 - 1) → more ≡ length (heirs_by target.now leaf.now.0) → sum ≡ min (more + count) (2 ^ 64 - 1)
    → sum ≡ min (length (heirs_of_read (read ++ (leaf, target) ∷ []))) (2 ^ 64 - 1)
count_more read leaf target count more sum so_far one is =
    let heirs : Bor Leaf × Bor Target → List BlockId = λ pair. heirs_by pair.1.now pair.0.now.0 in
    let pushed : length (heirs_of_read (read ++ (leaf, target) ∷ [])) ≡ length (heirs_of_read read) + length (heirs (leaf, target)) =
    ap (λ l. length l) (flat_map-append heirs read ((leaf, target) ∷ []) ∙ ap (λ l. heirs_of_read read ++ l) (append-nil (heirs (leaf, target))))
    ∙ length-append (heirs_of_read read) (heirs (leaf, target)) in
    omega (arith, so_far, one, is, pushed)

pub count_all : (leaves : List Leaf) (targets : List Target) (read : List (Bor Leaf × Bor Target)) → map (λ p. (p.0.now, p.1.now)) read ≡ zip leaves targets
    → min (length (heirs_of_read read)) (2 ^ 64 - 1) ≡ min (length (heirs_of_all (zip leaves targets))) (2 ^ 64 - 1)
count_all leaves targets read walked =
    let whole : heirs_of_all (zip leaves targets) ≡ heirs_of_read read =
    ap heirs_of_all (sym walked) ∙ flat_map-map (λ (pair : Leaf × Target). heirs_by pair.1 pair.0.0) (λ (p : Bor Leaf × Bor Target). (p.0.now, p.1.now)) read in
    ap (λ l. min (length l) (2 ^ 64 - 1)) (sym whole)
