-- The leaves after a regrid, as they are built out of the old ones.
use Rattle.std.proofs.Common.{◌≡◌, ℕ, zero, suc, ◌+◌, ◌-◌, ◌/◌, ◌<◌, ◌≤◌, true, false, eqb, List, [], ◌∷◌, ◌++◌, length, take, get_or, set, map, flat_map, ◌⊎◌, inl, inr, Contains, refl, sym, ap, subst, ◌∙◌, arith}
use Rattle.std.proofs.lemmas.Bool.{cases_eq, cases_order, cond-true, cond-false}
use Rattle.std.proofs.lemmas.Bool.Decides.{nat_tests}
use Rattle.std.proofs.lemmas.List.{length-map, get_or-map, take_more, take_all, map-append, append-nil, length-append}
use Rattle.std.proofs.lemmas.List.Sums.{fold-append}
use Rattle.std.proofs.lemmas.List.Elements.{All-contains, Contains-get_or}
use Rattle.std.proofs.lemmas.Grind.{flat_map-append}
use Rattle.std.proofs.Math.Seq.{set-append_seam, get_or-append_seam}
use Rattle.bf_id.specs.Id.{BlockId, level_of, child_of, children_of, parent_of, octant_of}
use Rattle.bf_id.proofs.IdLemmas.{child_of-same}
use Rattle.bf_cells.specs.Grid.{Grid, filled_with}
use Rattle.bf_cells.specs.Octant.{octant_copy_of, with_octant_mean}
use Rattle.bf_case.specs.declared.case.Case.{Case}
use Rattle.bf_case.specs.declared.target.Target.{Target}
use Rattle.bf_case.specs.declared.target.Target.TheVariants.{Keep, Refine, Merge}
use Rattle.bf_case.specs.Case.{IsValid}
use Rattle.bf_case.specs.Around.{nothing}
use Rattle.bf_case.specs.Map.{Leaf, ids_of, HasCells, IsMap}
use Rattle.bf_case.specs.Wishes.{wishes_of}
use Rattle.bf_case.specs.Regrid.{target_in, heirs_by, heirs_of, regridded_ids, merged_grid, sampled_leaf, regrid}
use Rattle.bf_case.proofs.MapLemmas.{sampled_leaf_same}
use Rattle.bf_case.proofs.RegridCells.{sampled_leaf-child}
use Rattle.bf_case.proofs.OctetLemmas.{octant_of-child}
use Rattle.bf_case.proofs.NewCells.{refined_above}
use Rattle.bf_plain.specs.Rebuild.{octants_of, last_of, mean_in_last, with_parent, with_heirs, rebuilt}
use Rattle.bf_plain.proofs.MergingGrid.{merging_grid, merging_grid-none, merging_grid-more, merging_grid-all}
use Rattle.bf_plain.proofs.Octets.{id_at, id_at-standing, IsChild, IsChild-from_target, IsChild-other, octant_before, target_in-child, octet_cells, leaf_of_child, sampled_parent}

-- ---- the last of some leaves

pub last_of-push : (front : List Leaf) (leaf : Leaf) → last_of (front ++ leaf ∷ []) ≡ leaf
last_of-push front leaf =
    let end : length (front ++ leaf ∷ []) - 1 ≡ length front = omega (arith, length-append front (leaf ∷ [])) in
    ap (λ n. get_or (front ++ leaf ∷ []) n nothing) end ∙ get_or-append_seam front leaf [] nothing

pub mean_in_last-push : (front : List Leaf) (i : BlockId) (octant : ℕ) (g into : Grid)
    → mean_in_last octant g (front ++ (i, into) ∷ []) ≡ front ++ (i, with_octant_mean g octant into) ∷ []
mean_in_last-push front i octant g into =
    let leaves : List Leaf = front ++ (i, into) ∷ [] in
    let written : Leaf → Leaf = λ leaf. (leaf.0, with_octant_mean g octant leaf.1) in
    let end : length leaves - 1 ≡ length front = omega (arith, length-append front ((i, into) ∷ [])) in
    ap (λ n. set leaves n (written (last_of leaves))) end ∙ set-append_seam front (i, into) [] (written (last_of leaves))
    ∙ ap (λ leaf. front ++ written leaf ∷ []) (last_of-push front (i, into))

-- ---- what is to be built

-- the new leaves that come of the first so many old ones
abbrev pub regridded_until : Case → List Leaf → ℕ → List Leaf
regridded_until c leaves n =
    map (sampled_leaf c.roots c.side leaves) (flat_map (heirs_of c.roots (ids_of leaves) (wishes_of c leaves)) (take n (ids_of leaves)))

-- what comes of one more
regridded_until-more : (c : Case) (leaves : List Leaf) (n : ℕ) → n < length leaves
    → regridded_until c leaves (n + 1)
    ≡ regridded_until c leaves n ++ map (sampled_leaf c.roots c.side leaves) (heirs_by (target_in c leaves (id_at leaves n)) (id_at leaves n))
regridded_until-more c leaves n below =
    let ids = ids_of leaves in
    let heirs : BlockId → List BlockId = heirs_of c.roots ids (wishes_of c leaves) in
    let made : BlockId → Leaf = sampled_leaf c.roots c.side leaves in
    let i = id_at leaves n in
    let more : take (n + 1) ids ≡ take n ids ++ i ∷ [] =
    take_more ids n nothing.0 (omega (arith, length-map leaves (λ (leaf : Leaf). leaf.0)))
    ∙ ap (λ j. take n ids ++ j ∷ []) (get_or-map (λ (leaf : Leaf). leaf.0) leaves n nothing nothing.0 below) in
    ap (λ l. map made (flat_map heirs l)) more ∙ ap (map made) (flat_map-append heirs (take n ids) (i ∷ []))
    ∙ map-append made (flat_map heirs (take n ids)) (heirs i ++ []) ∙ ap (λ l. regridded_until c leaves n ++ map made l) (append-nil (heirs i))

pub regridded_until-all : (c : Case) (leaves : List Leaf) → regridded_until c leaves (length leaves) ≡ regrid c leaves
unfolding regrid regridded_ids
regridded_until-all c leaves =
    ap (λ l. map (sampled_leaf c.roots c.side leaves) (flat_map (heirs_of c.roots (ids_of leaves) (wishes_of c leaves)) l))
    (take_all (length leaves) (ids_of leaves) (omega (arith, length-map leaves (λ (leaf : Leaf). leaf.0))))

-- ---- what is built

-- no octet is open: the next leaf is none of the later ones of an octet that merges
pub record IsWhole (c : Case) (leaves : List Leaf) (n : ℕ) (new : List Leaf) : Type 0 where
  pub same : new ≡ regridded_until c leaves n
  pub next : n < length leaves → target_in c leaves (id_at leaves n) ≡ Merge → octant_of (id_at leaves n) ≡ 0

-- an octet is open: the last new leaf is the parent, in which the first octants are written
pub record IsOpen (c : Case) (leaves : List Leaf) (n : ℕ) (new : List Leaf) : Type 0 where
  pub parent : BlockId
  pub octant : ℕ
  pub front : List Leaf
  pub begun : 0 < octant
  pub next : IsChild c leaves n parent octant
  pub written : new ≡ front ++ (parent, merging_grid c.side (octet_cells leaves parent) octant) ∷ []
  pub meant : regridded_until c leaves n ≡ front ++ (parent, merged_grid c.side (octet_cells leaves parent)) ∷ []

abbrev pub IsRebuilt : Case → List Leaf → ℕ → List Leaf → Type 0
IsRebuilt c leaves n new = IsWhole c leaves n new ⊎ IsOpen c leaves n new

-- the leaf before a later one of an octet that merges is of the octet too
leaf_before : (c : Case) (leaves : List Leaf) (n : ℕ) → IsMap c.roots c.side leaves → n + 1 < length leaves
    → target_in c leaves (id_at leaves (n + 1)) ≡ Merge → 0 < octant_of (id_at leaves (n + 1))
    → IsChild c leaves n (parent_of (id_at leaves (n + 1))) (octant_of (id_at leaves (n + 1)) - 1)
leaf_before c leaves n is below target later =
    let child = IsChild-from_target c leaves (n + 1) is below target in
    IsChild-other c leaves (n + 1) (parent_of (id_at leaves (n + 1))) (octant_of (id_at leaves (n + 1))) (octant_of (id_at leaves (n + 1)) - 1) n is child
    (omega (arith, child.octal)) (omega arith)

-- after a leaf that doesn't merge, no octet is open
next_of_other : (c : Case) (leaves : List Leaf) (n : ℕ) → IsMap c.roots c.side leaves → (target_in c leaves (id_at leaves n) ≡ Merge → ⊥)
    → n + 1 < length leaves → target_in c leaves (id_at leaves (n + 1)) ≡ Merge → octant_of (id_at leaves (n + 1)) ≡ 0
next_of_other c leaves n is other below target =
    elim (cases_order (octant_of (id_at leaves (n + 1))) 0) [
      | inl none ↦ none
      | inr (inl less) ↦ absurd (omega arith)
      | inr (inr more) ↦
          let before = leaf_before c leaves n is below target more in
          let i = child_of (parent_of (id_at leaves (n + 1))) (octant_of (id_at leaves (n + 1)) - 1) in
          absurd (other (ap (target_in c leaves) (id_at-standing leaves n i before.stands).1 ∙ target_in-child c leaves n _ _ before))
    ]

-- the new leaves after one more old one, by what becomes of it
regridded_until-target : (c : Case) (leaves : List Leaf) (n : ℕ) (t : Target) → n < length leaves → target_in c leaves (id_at leaves n) ≡ t
    → regridded_until c leaves (n + 1) ≡ regridded_until c leaves n ++ map (sampled_leaf c.roots c.side leaves) (heirs_by t (id_at leaves n))
regridded_until-target c leaves n t below target =
    regridded_until-more c leaves n below
    ∙ ap (λ u. regridded_until c leaves n ++ map (sampled_leaf c.roots c.side leaves) (heirs_by u (id_at leaves n))) target

-- no octet is open where a leaf doesn't merge
whole_before : (c : Case) (leaves : List Leaf) (n : ℕ) (new : List Leaf) → (target_in c leaves (id_at leaves n) ≡ Merge → ⊥) → IsRebuilt c leaves n new
    → new ≡ regridded_until c leaves n
whole_before c leaves n new other (inl whole) = whole.same
whole_before c leaves n new other (inr open') =
    let i = child_of open'.parent open'.octant in
    absurd (other (ap (target_in c leaves) (id_at-standing leaves n i open'.next.stands).1 ∙ target_in-child c leaves n open'.parent open'.octant open'.next))

-- a kept leaf
rebuilt_kept : (c : Case) (leaves : List Leaf) (n : ℕ) (new : List Leaf) → IsMap c.roots c.side leaves → n < length leaves
    → target_in c leaves (id_at leaves n) ≡ Keep → IsRebuilt c leaves n new → IsRebuilt c leaves (n + 1) (with_heirs c.side Keep (get_or leaves n nothing) new)
rebuilt_kept c leaves n new is below target before =
    let leaf = get_or leaves n nothing in
    let other : target_in c leaves (id_at leaves n) ≡ Merge → ⊥ = λ e. (let wrong : Keep ≡ Merge = sym target ∙ e in cc) in
    let has = Contains-get_or leaves n nothing below in
    let same = sampled_leaf_same c.roots c.side leaves leaf is has (All-contains (HasCells c.side) leaves leaf is.cells has) in
    inl (record {
      same = ap (λ l. l ++ leaf ∷ []) (whole_before c leaves n new other before)
          ∙ sym (regridded_until-target c leaves n Keep below target ∙ ap (λ l. regridded_until c leaves n ++ l ∷ []) same);
      next = next_of_other c leaves n is other;
    })

-- a leaf's children, sampled
octants_are : (c : Case) (leaves : List Leaf) (leaf : Leaf) → IsMap c.roots c.side leaves → Contains leaves leaf → level_of leaf.0 < 4
    → map (sampled_leaf c.roots c.side leaves) (children_of leaf.0) ≡ octants_of leaf
octants_are c leaves leaf is has above =
    let at : (o : ℕ) → o < 8 → sampled_leaf c.roots c.side leaves (child_of leaf.0 o) ≡ (child_of leaf.0 o, octant_copy_of leaf.1 o) =
    λ o small. sampled_leaf-child c.roots c.side leaves leaf.0 leaf.1 o is has above small in
    let e0 = at 0 (omega arith) in
    let e1 = at 1 (omega arith) in
    let e2 = at 2 (omega arith) in
    let e3 = at 3 (omega arith) in
    let e4 = at 4 (omega arith) in
    let e5 = at 5 (omega arith) in
    let e6 = at 6 (omega arith) in
    let e7 = at 7 (omega arith) in
    λ k. e0 k ∷ e1 k ∷ e2 k ∷ e3 k ∷ e4 k ∷ e5 k ∷ e6 k ∷ e7 k ∷ []

-- a refined leaf
rebuilt_refined : (c : Case) (leaves : List Leaf) (n : ℕ) (new : List Leaf) → c.levels ≤ 4 → IsMap c.roots c.side leaves → n < length leaves
    → target_in c leaves (id_at leaves n) ≡ Refine → IsRebuilt c leaves n new → IsRebuilt c leaves (n + 1) (with_heirs c.side Refine (get_or leaves n nothing) new)
rebuilt_refined c leaves n new shallow is below target before =
    let leaf = get_or leaves n nothing in
    let other : target_in c leaves (id_at leaves n) ≡ Merge → ⊥ = λ e. (let wrong : Refine ≡ Merge = sym target ∙ e in cc) in
    let has = Contains-get_or leaves n nothing below in
    let same = octants_are c leaves leaf is has (refined_above c leaves leaf.0 shallow is.ids target) in
    inl (record {
      same = ap (λ l. l ++ octants_of leaf) (whole_before c leaves n new other before)
          ∙ sym (regridded_until-target c leaves n Refine below target ∙ ap (λ l. regridded_until c leaves n ++ l) same);
      next = next_of_other c leaves n is other;
    })

-- after the last leaf of an octet, no octet is open
next_of_last : (c : Case) (leaves : List Leaf) (n : ℕ) (parent : BlockId) (octant : ℕ) → IsMap c.roots c.side leaves → IsChild c leaves n parent octant → octant + 1 ≡ 8
    → n + 1 < length leaves → target_in c leaves (id_at leaves (n + 1)) ≡ Merge → octant_of (id_at leaves (n + 1)) ≡ 0
next_of_last c leaves n parent octant is child last below target =
    elim (cases_order (octant_of (id_at leaves (n + 1))) 0) [
      | inl none ↦ none
      | inr (inl less) ↦ absurd (omega arith)
      | inr (inr more) ↦
          let before = leaf_before c leaves n is below target more in
          let here = id_at-standing leaves n (child_of parent octant) child.stands in
          let there = id_at-standing leaves n (child_of (parent_of (id_at leaves (n + 1))) (octant_of (id_at leaves (n + 1)) - 1)) before.stands in
          let same = child_of-same parent (parent_of (id_at leaves (n + 1))) octant (octant_of (id_at leaves (n + 1)) - 1) (sym here.1 ∙ there.1) in
          let later = IsChild-from_target c leaves (n + 1) is below target in
          absurd (omega (arith, same.1, later.octal))
    ]

-- one more leaf of an octet that merges
octet_more : (c : Case) (leaves : List Leaf) (n : ℕ) (parent : BlockId) (octant : ℕ) (front : List Leaf) → IsValid c → IsMap c.roots c.side leaves
    → IsChild c leaves n parent octant
    → regridded_until c leaves (n + 1) ≡ front ++ (parent, merged_grid c.side (octet_cells leaves parent)) ∷ []
    → IsRebuilt c leaves (n + 1)
    (mean_in_last octant (octet_cells leaves parent octant) (front ++ (parent, merging_grid c.side (octet_cells leaves parent) octant) ∷ []))
octet_more c leaves n parent octant front valid is child meant =
    let cells : ℕ → Grid = octet_cells leaves parent in
    let half : ℕ = c.side / 2 in
    let twice : c.side ≡ half + half = omega (arith, valid.sized.even) in
    let some : 0 < half = omega (arith, valid.sized.wide) in
    let last : Grid → List Leaf = λ g. front ++ (parent, g) ∷ [] in
    let written : mean_in_last octant (cells octant) (last (merging_grid c.side cells octant)) ≡ last (merging_grid c.side cells (octant + 1)) =
    mean_in_last-push front parent octant (cells octant) (merging_grid c.side cells octant)
    ∙ ap last (merging_grid-more c.side half cells octant twice some child.octal) in
    elim (cases_eq (octant + 1) 8) [
      | inl done ↦ inl (record {
        same = written ∙ ap last (ap (merging_grid c.side cells) done ∙ merging_grid-all c.side half cells twice some) ∙ sym meant;
        next = next_of_last c leaves n parent octant is child done;
      })
      | inr other ↦ inr (record {
        parent = parent;
        octant = octant + 1;
        front = front;
        begun = omega arith;
        next = IsChild-other c leaves n parent octant (octant + 1) (n + 1) is child (omega (arith, child.octal)) (omega arith);
        written = written;
        meant = meant;
      })
    ]

-- the same, by what is known of the leaf
merged_more : (c : Case) (leaves : List Leaf) (n : ℕ) (new : List Leaf) (parent : BlockId) (octant : ℕ) (front : List Leaf) → IsValid c
    → IsMap c.roots c.side leaves → IsChild c leaves n parent octant
    → regridded_until c leaves (n + 1) ≡ front ++ (parent, merged_grid c.side (octet_cells leaves parent)) ∷ []
    → with_parent c.side (id_at leaves n) new ≡ front ++ (parent, merging_grid c.side (octet_cells leaves parent) octant) ∷ []
    → IsRebuilt c leaves (n + 1) (with_heirs c.side Merge (get_or leaves n nothing) new)
merged_more c leaves n new parent octant front valid is child meant begun =
    let leaf = get_or leaves n nothing in
    let leaf_is = leaf_of_child c leaves n parent octant is child in
    let octant_is : octant_of leaf.0 ≡ octant = ap (λ (l : Leaf). octant_of l.0) leaf_is ∙ octant_of-child parent octant in
    let cells_are : leaf.1 ≡ octet_cells leaves parent octant = ap (λ (l : Leaf). l.1) leaf_is in
    let same : with_heirs c.side Merge leaf new
    ≡ mean_in_last octant (octet_cells leaves parent octant) (front ++ (parent, merging_grid c.side (octet_cells leaves parent) octant) ∷ []) =
    ap (λ o. mean_in_last o leaf.1 (with_parent c.side leaf.0 new)) octant_is ∙ ap (λ g. mean_in_last octant g (with_parent c.side leaf.0 new)) cells_are
    ∙ ap (mean_in_last octant (octet_cells leaves parent octant)) begun in
    subst (IsRebuilt c leaves (n + 1)) (sym same) (octet_more c leaves n parent octant front valid is child meant)

-- a leaf of an octet that merges
rebuilt_merged : (c : Case) (leaves : List Leaf) (n : ℕ) (new : List Leaf) → IsValid c → IsMap c.roots c.side leaves → n < length leaves
    → target_in c leaves (id_at leaves n) ≡ Merge → IsRebuilt c leaves n new → IsRebuilt c leaves (n + 1) (with_heirs c.side Merge (get_or leaves n nothing) new)
rebuilt_merged c leaves n new valid is below target (inl whole) =
    let i = id_at leaves n in
    let parent = parent_of i in
    let first : octant_of i ≡ 0 = whole.next below target in
    let test : eqb (octant_of i) 0 ≡ true = grind (arith, nat_tests) in
    let child = IsChild-from_target c leaves n is below target in
    let cells : ℕ → Grid = octet_cells leaves parent in
    let made : BlockId → Leaf = sampled_leaf c.roots c.side leaves in
    let pushed : Grid → List Leaf = λ g. regridded_until c leaves n ++ (parent, g) ∷ [] in
    merged_more c leaves n new parent (octant_of i) (regridded_until c leaves n) valid is child
    (regridded_until-target c leaves n Merge below target
    ∙ ap (λ l. regridded_until c leaves n ++ map made l) (cond-true (eqb (octant_of i) 0) (parent ∷ []) [] test)
    ∙ ap (λ l. regridded_until c leaves n ++ l ∷ []) (sampled_parent c leaves parent is child.merging))
    (cond-true (eqb (octant_of i) 0) (new ++ (parent, filled_with c.side 0) ∷ []) new test
    ∙ ap (λ l. l ++ (parent, filled_with c.side 0) ∷ []) whole.same
    ∙ ap pushed (merging_grid-none c.side cells ∙ ap (merging_grid c.side cells) (sym first)))
rebuilt_merged c leaves n new valid is below target (inr open') =
    let i = id_at leaves n in
    let parent = open'.parent in
    let octant = open'.octant in
    let octant_is : octant_of i ≡ octant = ap octant_of (id_at-standing leaves n (child_of parent octant) open'.next.stands).1 ∙ octant_of-child parent octant in
    let test : eqb (octant_of i) 0 ≡ false = (let begun = open'.begun in grind (arith, nat_tests)) in
    let made : BlockId → Leaf = sampled_leaf c.roots c.side leaves in
    merged_more c leaves n new parent octant open'.front valid is open'.next
    (regridded_until-target c leaves n Merge below target
    ∙ ap (λ l. regridded_until c leaves n ++ map made l) (cond-false (eqb (octant_of i) 0) (parent_of i ∷ []) [] test)
    ∙ append-nil (regridded_until c leaves n) ∙ open'.meant)
    (cond-false (eqb (octant_of i) 0) (new ++ (parent_of i, filled_with c.side 0) ∷ []) new test ∙ open'.written)

-- one more old leaf
rebuilt_more : (c : Case) (leaves : List Leaf) (n : ℕ) (new : List Leaf) → IsValid c → IsMap c.roots c.side leaves → n < length leaves → IsRebuilt c leaves n new
    → IsRebuilt c leaves (n + 1) (with_heirs c.side (target_in c leaves (id_at leaves n)) (get_or leaves n nothing) new)
rebuilt_more c leaves n new valid is below before = by (target_in c leaves (id_at leaves n)) refl
  where
    by : (t : Target) → target_in c leaves (id_at leaves n) ≡ t → IsRebuilt c leaves (n + 1) (with_heirs c.side t (get_or leaves n nothing) new)
    by Keep target = rebuilt_kept c leaves n new is below target before
    by Refine target = rebuilt_refined c leaves n new valid.sized.shallow is below target before
    by Merge target = rebuilt_merged c leaves n new valid is below target before

-- ---- all leaves, one after another

-- the leaves, each with what becomes of it
abbrev pub targeted : Case → List Leaf → List (Leaf × Target)
targeted c leaves = map (λ (leaf : Leaf). (leaf, target_in c leaves leaf.0)) leaves

pub length-targeted : (c : Case) (leaves : List Leaf) → length (targeted c leaves) ≡ length leaves
length-targeted c leaves =
    let f : Leaf → Leaf × Target = λ leaf. (leaf, target_in c leaves leaf.0) in
    length-map leaves f

-- the pair at a place
pub get_or-targeted : (c : Case) (leaves : List Leaf) (n : ℕ) (d : Leaf × Target) → n < length leaves
    → get_or (targeted c leaves) n d ≡ (get_or leaves n nothing, target_in c leaves (id_at leaves n))
get_or-targeted c leaves n d below =
    let f : Leaf → Leaf × Target = λ leaf. (leaf, target_in c leaves leaf.0) in
    get_or-map f leaves n nothing d below

pub rebuilt-push : (side : ℕ) (pairs : List (Leaf × Target)) (pair : Leaf × Target) → rebuilt side (pairs ++ pair ∷ []) ≡ with_heirs side pair.1 pair.0 (rebuilt side pairs)
rebuilt-push side pairs pair = fold-append (λ new (p : Leaf × Target). with_heirs side p.1 p.0 new) [] pairs (pair ∷ [])

-- the first leaf is no later one of an octet
first_begins : (c : Case) (leaves : List Leaf) → IsMap c.roots c.side leaves → 0 < length leaves → target_in c leaves (id_at leaves 0) ≡ Merge
    → octant_of (id_at leaves 0) ≡ 0
first_begins c leaves is below target =
    let child = IsChild-from_target c leaves 0 is below target in
    omega (arith, octant_before c leaves 0 _ _ is child)

pub rebuilt_until : (c : Case) (leaves : List Leaf) (n : ℕ) → IsValid c → IsMap c.roots c.side leaves → n ≤ length leaves
    → IsRebuilt c leaves n (rebuilt c.side (take n (targeted c leaves)))
rebuilt_until c leaves zero valid is below = inl (record { same = refl; next = first_begins c leaves is })
rebuilt_until c leaves (suc n) valid is below =
    let pair : Leaf × Target = (get_or leaves n nothing, target_in c leaves (id_at leaves n)) in
    let d : Leaf × Target = (nothing, Keep) in
    let more : take (n + 1) (targeted c leaves) ≡ take n (targeted c leaves) ++ pair ∷ [] =
    take_more (targeted c leaves) n d (omega (arith, length-targeted c leaves))
    ∙ ap (λ (p : Leaf × Target). take n (targeted c leaves) ++ p ∷ []) (get_or-targeted c leaves n d (omega arith)) in
    let step = rebuilt_more c leaves n (rebuilt c.side (take n (targeted c leaves))) valid is (omega arith) (rebuilt_until c leaves n valid is (omega arith)) in
    let whole : rebuilt c.side (take (n + 1) (targeted c leaves)) ≡ with_heirs c.side pair.1 pair.0 (rebuilt c.side (take n (targeted c leaves))) =
    ap (rebuilt c.side) more ∙ rebuilt-push c.side (take n (targeted c leaves)) pair in
    let up : n + 1 ≡ suc n = omega arith in
    subst (λ m. IsRebuilt c leaves m (rebuilt c.side (take m (targeted c leaves)))) up (subst (IsRebuilt c leaves (n + 1)) (sym whole) step)

-- all of them make the leaves after the regrid
pub rebuilt_all : (c : Case) (leaves new : List Leaf) → IsRebuilt c leaves (length leaves) new → new ≡ regrid c leaves
rebuilt_all c leaves new (inl whole) = whole.same ∙ regridded_until-all c leaves
rebuilt_all c leaves new (inr open') = absurd (omega (arith, open'.next.stands.0, length-map leaves (λ (leaf : Leaf). leaf.0)))

pub rebuilt-targeted : (c : Case) (leaves : List Leaf) → IsValid c → IsMap c.roots c.side leaves → rebuilt c.side (targeted c leaves) ≡ regrid c leaves
rebuilt-targeted c leaves valid is =
    let long = length-targeted c leaves in
    let all : take (length leaves) (targeted c leaves) ≡ targeted c leaves = take_all (length leaves) (targeted c leaves) (omega arith) in
    ap (rebuilt c.side) (sym all) ∙ rebuilt_all c leaves _ (rebuilt_until c leaves (length leaves) valid is (omega arith))
