-- The model's blocks become those after its regrid, and what they give are pieces.
use Rattle.std.proofs.Common.{◌≡◌, ℕ, ◌<◌, ◌/◌, Option, Some, Bool, true, false, cond, List, [], ◌∷◌, ◌++◌, map, filter, flat_map, Contains, refl, sym, ap, ◌∙◌, IsTrue}
use Rattle.std.specs.Prelude.{option_map, AllPairs}
use Rattle.std.specs.List.{range_with_len}
use Rattle.std.specs.Option.{option_map_or}
use Rattle.std.proofs.lemmas.Bool.{cond-true}
use Rattle.std.proofs.lemmas.List.{map-append, map-id}
use Rattle.std.proofs.lemmas.List.Elements.{All-contains, All-map}
use Rattle.std.proofs.lemmas.Simd.{map-map}
use Rattle.bf_id.specs.Id.{BlockId, child_of, children_of, id_eq}
use Rattle.bf_id.specs.Walk.{IsBefore}
use Rattle.bf_id.proofs.Boxes.{id_eq_is_equal}
use Rattle.bf_id.proofs.Tilings.{Contains-head, Contains-tail}
use Rattle.bf_cells.specs.Grid.{Grid, grid_with}
use Rattle.bf_cells.specs.Means.{means_of}
use Rattle.bf_cells.specs.Octant.{octant_copy_of}
use Rattle.bf_cells.proofs.MeanLemmas.{side-means_of}
use Rattle.bf_case.specs.declared.case.Case.{Case}
use Rattle.bf_case.specs.declared.target.Target.{Target}
use Rattle.bf_case.specs.declared.target.Target.TheVariants.{Keep, Refine, Merge}
use Rattle.bf_case.specs.Map.{Leaf, ids_of, cells_at, HasCells}
use Rattle.bf_case.specs.Model.{model, model_at, regrids}
use Rattle.bf_case.specs.Regrid.{heirs_by, regrid, regridded_ids}
use Rattle.bf_case.proofs.HeirLemmas.{heirs_in, IsRegridded}
use Rattle.bf_case.proofs.ListLemmas.{Contains-map_cases, find_only, All-from_fn}
use Rattle.bf_case.proofs.LookupLemmas.{leaf_from_cells_at}
use Rattle.bf_case.proofs.ModelLemmas.{ids_of-regrid}
use Rattle.bf_case.proofs.NewCells.{cells_at-kept}
use Rattle.bf_case.proofs.SampleLemmas.{same_leaf}
use Rattle.bf_case.proofs.TestLemmas.{Contains-filter_cases}
use Rattle.bf_block.specs.declared.cargo.Cargo.{Cargo}
use Rattle.bf_block.specs.declared.cargo.Cargo.TheVariants.{Whole, Piece}
use Rattle.bf_block.specs.declared.point.Point.{Point}
use Rattle.bf_block.specs.Runs.{CanRun}
use Rattle.bf_block.specs.Block.{BlockValue, IsModels, after_regrid, before_regrid, block_with, child_block, kept_block, map_at}
use Rattle.bf_block.specs.Eighth.{EighthValue, AreMeans, AreOctet, eighth_of, merged_block}
use Rattle.bf_block.proofs.Steps.{map_of, refined_leaf}
use Rattle.bf_block.proofs.MergedLemmas.{merged_is_models}
use Rattle.bf_migrate.specs.Giving.{all_sent, gifts_by, gifts_of, sent_to, whole}
use Rattle.bf_migrate.specs.Lots.{IsBlockAt, cargo_id}
use Rattle.bf_migrate.proofs.TargetLemmas.{model_regridded}
use Rattle.bf_mark_rounds.specs.Neighbors.{is_own}
use Rattle.bf_proxy.specs.Homes.{home_of}
use Rattle.bf_proxy.proofs.HomeLemmas.{made_are}
use Rattle.bf_migrate_rounds.specs.Shares.{given_by, model_block, new_ids, old_ids, own_old, target_at}
use Rattle.bf_migrate_rounds.proofs.ListLemmas.{eight_alike}
use Rattle.bf_migrate_rounds.proofs.PieceLemmas.{eighth_child, eighth_leaf, goal_child, goal_kept, goal_merged, goal_of, is_eighth, merges_by, pieces_in, unmerged, unmerged_regridded}

-- a leaf is found by its id
found_at : (leaves : List Leaf) (i : BlockId) → AllPairs IsBefore (ids_of leaves) → Contains (ids_of leaves) i → (g : Grid) × (cells_at leaves i ≡ Some g)
found_at leaves i rising has =
    let from = Contains-map_cases (λ (leaf : Leaf). leaf.0) leaves i has in
    let leaf : Leaf = from.0 in (
      leaf.1,
      ap (option_map (λ (leaf : Leaf). leaf.1)) (find_only (λ (leaf : Leaf). id_eq leaf.0 i) leaves leaf from.1 ((id_eq_is_equal leaf.0 i).1 (sym from.2))
          (λ (other : Leaf) has' passed. same_leaf leaves other leaf rising has' from.1 ((id_eq_is_equal other.0 i).0 passed ∙ from.2))),
    )

-- where a time regrids, the model's leaves are the new ones
pub leaves_after : (c : Case) (time : ℕ) → IsTrue (regrids c time) → ids_of (model_at c time true) ≡ new_ids c time
leaves_after c time does = ap ids_of (cond-true (regrids c time) (regrid c (model c time)) (model c time) does) ∙ ids_of-regrid c (model c time)

-- a block of the model is told by its place
pub block_is : (c : Case) (time : ℕ) (q : BlockId) (b : BlockValue) → IsBlockAt c time q b → IsModels b → b ≡ model_block c (after_regrid time) q
block_is c time q b at models = λ k. block_with (at.case k) (at.point k) (at.id k) (own k)
  where
    placed : cells_at (map_at c (after_regrid time)) q ≡ Some b.cells
    placed =
        ap (λ (x : Case). cells_at (map_at x (after_regrid time)) q) (sym at.case)
        ∙ ap (λ (p : Point). cells_at (map_at b.case p) q) (sym at.point)
        ∙ ap (cells_at (map_at b.case b.point)) (sym at.id)
        ∙ models.leaf

    own : b.cells ≡ (model_block c (after_regrid time) q).cells
    own = sym (ap (λ (found : Option Grid). option_map_or (λ g. g) found (grid_with 0 [])) placed)

module _ (c : Case) (time : ℕ) (runs : CanRun c) (does : IsTrue (regrids c time)) where
  abbrev leaves : List Leaf
  leaves = model c time

  abbrev ids : List BlockId
  ids = old_ids c time

  abbrev target : BlockId → Target
  target = target_at c time

  abbrev pub old : BlockId → BlockValue
  old = model_block c (before_regrid time)

  abbrev pub new : BlockId → BlockValue
  new = model_block c (after_regrid time)

  abbrev cells : Option Grid → Grid
  cells found = option_map_or (λ g. g) found (grid_with 0 [])

  pub regridded_model : IsRegridded c.roots c.levels ids target
  regridded_model = model_regridded c time runs

  pub news_are : new_ids c time ≡ heirs_in target ids
  unfolding regridded_ids
  news_are = refl

  found : (i : BlockId) → Contains ids i → (g : Grid) × (cells_at leaves i ≡ Some g)
  found i has = found_at leaves i (map_of c time false runs).rising has

  pub block_models : (i : BlockId) → Contains ids i → IsModels (old i)
  block_models i has = let g = found i has in record { runs = runs; leaf = g.1 ∙ ap (λ o. Some (cells o)) (sym g.1) }

  -- ---- what becomes of blocks

  pub kept_is : (i : BlockId) → Contains ids i → target i ≡ Keep → kept_block (old i) ≡ new i
  kept_is i has keeps =
      let g = found i has in
      ap (λ o. record (new i) { cells = cells o })
      (sym (ap (λ ls. cells_at ls i) (cond-true (regrids c time) (regrid c leaves) leaves does)
      ∙ cells_at-kept c leaves i g.0 (map_of c time false runs) g.1 keeps ∙ sym g.1))

  pub child_is : (i : BlockId) (octant : ℕ) → Contains ids i → target i ≡ Refine → octant < 8 → child_block (old i) octant ≡ new (child_of i octant)
  child_is i octant has refines small =
      let g = found i has in
      let leaf = refined_leaf c time i g.0 octant runs does g.1 refines small in
      ap (λ (h : Grid). record (new (child_of i octant)) { cells = h }) (ap (λ o. octant_copy_of (cells o) octant) g.1 ∙ sym (ap cells leaf))

  are_means : (i : BlockId) → Contains ids i → target i ≡ Merge → AreMeans (eighth_of (old i))
  are_means i has merges =
      let g = found i has in
      record {
        runs = runs;
        means = ap (option_map means_of) g.1 ∙ ap (λ o. Some (means_of (cells o))) (sym g.1);
        side = side-means_of (old i).cells ∙ ap (λ s. s / 2) (ap (λ o. (cells o).side) g.1
            ∙ (All-contains (HasCells c.side) leaves (i, g.0) (map_of c time false runs).cells (leaf_from_cells_at leaves i g.0 g.1)).fits);
        merges = record { regrids = does; fresh = refl; target_is = merges };
      }

  -- the eighths of the children of a block
  abbrev pub parts : BlockId → List EighthValue
  parts q = map (λ i. eighth_of (old i)) (children_of q)

  pub octet_is : (q : BlockId) → AreOctet c time q (parts q)
  octet_is q = record {
    ids = map-map (λ (e : EighthValue). e.id) (λ i. eighth_of (old i)) (children_of q) ∙ map-id (children_of q);
    cases = All-map (λ (e : EighthValue). e.case ≡ c) (λ i. eighth_of (old i)) (children_of q) (λ k d below. refl);
    points = All-map (λ (e : EighthValue). e.point ≡ before_regrid time) (λ i. eighth_of (old i)) (children_of q) (λ k d below. refl);
  }

  pub merged_is : (q : BlockId) → ((octant : ℕ) → octant < 8 → Contains ids (child_of q octant)) → ((octant : ℕ) → octant < 8 → target (child_of q octant) ≡ Merge)
      → merged_block c time q (parts q) ≡ new q
  merged_is q all merge =
      ap (λ (g : Grid). record (new q) { cells = g }) (sym (ap cells
      (merged_is_models c time q (parts q) (octet_is q)
      (All-map AreMeans (λ i. eighth_of (old i)) (children_of q)
      (All-from_fn (λ i. AreMeans (eighth_of (old i))) (child_of q) 8 (λ k small. are_means (child_of q k) (all k small) (merge k small))))
      (eighth_of (old (child_of q 0))) refl).leaf))

  -- ---- pieces

  abbrev pub pieces : List BlockId
  pieces = pieces_in ids target

  abbrev pub goal : BlockId → BlockId
  goal = goal_of ids target

  -- what goes as a piece: an eighth, or a whole block of the model
  unfoldable pub load : BlockId → Cargo
  load p = cond (is_eighth ids target p) (Piece (eighth_of (old p))) (Whole (new p))

  load_by : (p : BlockId) (b : Bool) → is_eighth ids target p ≡ b → load p ≡ cond b (Piece (eighth_of (old p))) (Whole (new p))
  unfolding load
  load_by p b e = ap (λ x. cond x (Piece (eighth_of (old p))) (Whole (new p))) e

  pub load_kept : (i : BlockId) → Contains ids i → target i ≡ Keep → load i ≡ Whole (new i)
  load_kept i has e = load_by i false (eighth_leaf c.roots c.levels ids target regridded_model i has ∙ ap merges_by e)

  pub load_merged : (i : BlockId) → Contains ids i → target i ≡ Merge → load i ≡ Piece (eighth_of (old i))
  load_merged i has e = load_by i true (eighth_leaf c.roots c.levels ids target regridded_model i has ∙ ap merges_by e)

  pub load_child : (i : BlockId) (o : ℕ) → Contains ids i → target i ≡ Refine → o < 8 → load (child_of i o) ≡ Whole (new (child_of i o))
  load_child i o has e small = load_by (child_of i o) false (eighth_child c.roots c.levels ids target regridded_model i o has e small)

  -- each piece has its own box
  pub load_id : (p : BlockId) → cargo_id (load p) ≡ p
  unfolding load
  load_id p = by (is_eighth ids target p)
    where
      by : (b : Bool) → cargo_id (cond b (Piece (eighth_of (old p))) (Whole (new p))) ≡ p
      by true = refl
      by false = refl

  -- ---- what blocks give

  module _ (owner later : BlockId → ℕ) where
    -- a piece with the rank of its proxy
    abbrev pub sent_as : BlockId → ℕ × Cargo
    sent_as p = (later (goal p), load p)

    leaf_gives : (i : BlockId) → Contains ids i → map (sent_to later) (gifts_of (old i)) ≡ map sent_as (heirs_by (unmerged (target i)) i)
    leaf_gives i has = by (target i) refl
      where
        by : (t : Target) → target i ≡ t → map (sent_to later) (gifts_by t (old i)) ≡ map sent_as (heirs_by (unmerged t) i)
        by Keep e =
            ap (λ b. sent_to later (whole b) ∷ []) (kept_is i has e)
            ∙ (λ k. (later (sym (goal_kept c.roots c.levels ids target regridded_model i has e) k), sym (load_kept i has e) k) ∷ [])
        by Refine e =
            ap (map (sent_to later)) (map-map whole (child_block (old i)) (range_with_len 0 8))
            ∙ map-map (sent_to later) (λ k. whole (child_block (old i) k)) (range_with_len 0 8)
            ∙ eight_alike (λ k. sent_to later (whole (child_block (old i) k))) (λ k. sent_as (child_of i k)) (λ k small.
            ap (λ b. sent_to later (whole b)) (child_is i k has e small)
            ∙ (λ l. (later (sym (goal_child c.roots c.levels ids target regridded_model i k has e small) l), sym (load_child i k has e small) l)))
            ∙ sym (map-map sent_as (child_of i) (range_with_len 0 8))
        by Merge e = λ k. (later (sym (goal_merged c.roots c.levels ids target regridded_model i has e) k), sym (load_merged i has e) k) ∷ []

    leaves_give : (some : List BlockId) → ((i : BlockId) → Contains some i → Contains ids i)
        → all_sent later (map old some) ≡ map sent_as (flat_map (λ i. heirs_by (unmerged (target i)) i) some)
    leaves_give [] within = refl
    leaves_give (i ∷ some) within =
        ap (λ xs. xs ++ all_sent later (map old some)) (leaf_gives i (within i (Contains-head i some)))
        ∙ ap (λ xs. map sent_as (heirs_by (unmerged (target i)) i) ++ xs) (leaves_give some (λ j has. within j (Contains-tail i some j has)))
        ∙ sym (map-append sent_as (heirs_by (unmerged (target i)) i) (flat_map (λ j. heirs_by (unmerged (target j)) j) some))

    -- the rank that owns the leaf of which a piece comes
    abbrev pub comes_from : BlockId → ℕ
    comes_from = home_of ids owner

    abbrev pub goes_to : BlockId → ℕ
    goes_to p = later (goal p)

    -- a rank's blocks give the pieces that come of them
    pub given_is : (rank : ℕ) → given_by c time owner later rank ≡ map sent_as (filter (λ p. is_own comes_from rank p) pieces)
    given_is rank =
        leaves_give (own_old c time owner later rank) (λ i has. (Contains-filter_cases (is_own owner rank) ids i has).0)
        ∙ ap (map sent_as) (made_are c.roots c.levels ids (λ i. unmerged (target i)) (unmerged_regridded c.roots c.levels ids target regridded_model) owner rank)
