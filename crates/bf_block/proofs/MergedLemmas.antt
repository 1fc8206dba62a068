-- What the eighths of eight siblings make is the model's.
use Rattle.std.proofs.Common.{◌≡◌, ℕ, ◌+◌, ◌/◌, ◌%◌, ◌<◌, Option, Some, None, false, List, [], length, get_or, ap, subst, sym, ◌∙◌, arith, All}
use Rattle.std.proofs.lemmas.Nat.{mod_below}
use Rattle.std.proofs.lemmas.List.{get_or-map, length-map}
use Rattle.std.proofs.lemmas.List.Elements.{All-contains}
use Rattle.std.proofs.lemmas.List.FromFn.{get_or-map-range_with_len, length-map-range_with_len}
use Rattle.bf_id.specs.Id.{BlockId, level_of, child_of, parent_of}
use Rattle.bf_id.proofs.Boxes.{level-child}
use Rattle.bf_cells.specs.Grid.{Grid, cell_at, grid_with}
use Rattle.bf_cells.specs.Octant.{mean_at}
use Rattle.bf_cells.specs.Means.{means_of}
use Rattle.bf_cells.proofs.GridLemmas.{cell_at-table, same_tables}
use Rattle.bf_case.specs.declared.case.Case.{Case}
use Rattle.bf_case.specs.declared.target.Target.TheVariants.{Merge}
use Rattle.bf_case.specs.Map.{HasCells, cells_at}
use Rattle.bf_case.specs.Model.{model}
use Rattle.bf_case.specs.Regrid.{octant_at, merged_grid}
use Rattle.bf_case.proofs.LookupLemmas.{leaf_from_cells_at}
use Rattle.bf_case.proofs.OctetLemmas.{parent_of-child}
use Rattle.bf_case.proofs.RegridCells.{IsOctant, octant_is}
use Rattle.bf_block.specs.declared.point.Point.{Point}
use Rattle.bf_block.specs.Runs.{CanRun}
use Rattle.bf_block.specs.Block.{IsModels, IsRegriddedTo, map_at, before_regrid, after_regrid, block_with}
use Rattle.bf_block.specs.Eighth.{EighthValue, AreMeans, AreOctet, joined_value, means_in, octants_joined, merged_block}
use Rattle.bf_block.proofs.EighthLemmas.{found_of}
use Rattle.bf_block.proofs.Steps.{map_of, merged_leaf}

module _ (c : Case) (time : ℕ) (parent : BlockId) (parts : List EighthValue) (octet : AreOctet c time parent parts) (are : All AreMeans parts) (e : EighthValue) (first : e ≡ get_or parts 0 e) where
  pub eight_parts : length parts ≡ 8
  eight_parts = sym (length-map parts (λ (v : EighthValue). v.id)) ∙ ap length octet.ids ∙ length-map-range_with_len (child_of parent) 0 8

  -- the first of them
  some_part : 0 < length parts
  some_part = omega (arith, eight_parts)

  its : AreMeans e
  its = subst AreMeans (sym first) (are 0 e some_part)

  of_case : e.case ≡ c
  of_case = ap (λ (v : EighthValue). v.case) first ∙ octet.cases 0 e some_part

  at : e.point ≡ before_regrid time
  at = ap (λ (v : EighthValue). v.point) first ∙ octet.points 0 e some_part

  part_id : (k : ℕ) → k < 8 → (get_or parts k e).id ≡ child_of parent k
  part_id k small =
      sym (get_or-map (λ (v : EighthValue). v.id) parts k e parent (omega (arith, eight_parts, small)))
      ∙ ap (λ is. get_or is k parent) octet.ids ∙ get_or-map-range_with_len (child_of parent) 0 8 k k parent small (omega arith)

  named : e.id ≡ child_of parent 0
  named = ap (λ (v : EighthValue). v.id) first ∙ part_id 0 (omega arith)

  can_run : CanRun c
  can_run = subst CanRun of_case its.runs

  merges : IsRegriddedTo Merge c (before_regrid time) (child_of parent 0)
  merges =
      subst (IsRegriddedTo Merge c (before_regrid time)) named
      (subst (λ (p : Point). IsRegriddedTo Merge c p e.id) at
      (subst (λ (x : Case). IsRegriddedTo Merge x e.point e.id) of_case its.merges))

  -- the model's cells of which each has the means
  known_part : (k : ℕ) → k < 8 → (g : Grid) × ((cells_at (model c time) (child_of parent k) ≡ Some g) × (means_of g ≡ (get_or parts k e).means))
  known_part k small =
      let v : EighthValue = get_or parts k e in
      let within : k < length parts = omega (arith, eight_parts, small) in
      let found = found_of (cells_at (map_at v.case v.point) v.id) v.means (are k e within).means in
      let here : cells_at (map_at v.case v.point) v.id ≡ cells_at (model c time) (child_of parent k) =
      ap (λ (x : Case). cells_at (map_at x v.point) v.id) (octet.cases k e within)
      ∙ ap (λ (p : Point). cells_at (map_at c p) v.id) (octet.points k e within)
      ∙ ap (cells_at (model c time)) (part_id k small) in
      (found.0, (sym here ∙ found.1.0, found.1.1))

  grid_of : Option Grid → Grid
  grid_of None = grid_with 0 []
  grid_of (Some g) = g

  leaf_grid : ℕ → Grid
  leaf_grid k = grid_of (cells_at (model c time) (child_of parent k))

  merged_cells : merged_grid c.side leaf_grid ≡ octants_joined c.side (means_in parts)
  unfolding merged_grid octants_joined leaf_grid grid_of means_of
  merged_cells = same_tables c.side _ _ (λ x y z hx hy hz. each x y z hx hy hz)
    where
      half : ℕ
      half = c.side / 2

      twice : c.side ≡ half + half
      twice = let even = can_run.valid.sized.even in omega arith

      some : 0 < half
      some = let wide = can_run.valid.sized.wide in omega arith

      each : (x y z : ℕ) → x < c.side → y < c.side → z < c.side
          → mean_at (leaf_grid (octant_at half x y z)) (x % half) (y % half) (z % half) ≡ joined_value c.side (means_in parts) x y z
      each x y z hx hy hz =
          let o : ℕ = octant_at half x y z in
          let in_octant : IsOctant half x y z = octant_is half x y z some (omega (arith, twice)) (omega (arith, twice)) (omega (arith, twice)) in
          let known = known_part o in_octant.octal in
          let g : Grid = known.0 in
          let is_g : leaf_grid o ≡ g = ap grid_of known.1.0 in
          let fits : g.side ≡ c.side = (All-contains (HasCells c.side) (model c time) (child_of parent o, g) (map_of c time false can_run).cells
          (leaf_from_cells_at (model c time) (child_of parent o) g known.1.0)).fits in
          let half_is : g.side / 2 ≡ half = ap (λ s. s / 2) fits in
          let part : get_or (means_in parts) o (grid_with 0 []) ≡ means_of g =
          get_or-map (λ (v : EighthValue). v.means) parts o e (grid_with 0 []) (omega (arith, eight_parts, in_octant.octal)) ∙ sym known.1.1 in
          ap (λ (h : Grid). mean_at h (x % half) (y % half) (z % half)) is_g
          ∙ sym (cell_at-table (g.side / 2) (mean_at g) (x % half) (y % half) (z % half) (below (g.side / 2) x half_is) (below (g.side / 2) y half_is) (below (g.side / 2) z half_is))
          ∙ ap (λ (h : Grid). cell_at h (x % half) (y % half) (z % half)) (sym part)
        where
          below : (n a : ℕ) → n ≡ half → a % half < n
          below n a same = subst (λ m. a % half < m) (sym same) (mod_below a half some)

  pub merged_is_models : IsModels (merged_block c time parent parts)
  unfolding leaf_grid grid_of
  merged_is_models = record {
    runs = can_run;
    leaf = merged_leaf c time parent leaf_grid can_run merges.regrids (λ k small. each k small) merges.target_is ∙ ap Some merged_cells;
  }
    where
      each : (k : ℕ) → k < 8 → cells_at (model c time) (child_of parent k) ≡ Some (leaf_grid k)
      each k small = let known = known_part k small in known.1.0 ∙ ap Some (sym (ap grid_of known.1.0))

  -- what is made of the first of them and of the cells
  pub made_is : (own : Case) (p : Point) (i : BlockId) (g : Grid) → own ≡ e.case → p ≡ after_regrid e.point.time → i ≡ parent_of e.id
      → g ≡ octants_joined e.case.side (means_in parts) → block_with own p i g ≡ merged_block c time parent parts
  made_is own p i g case point id cells =
      ap (λ (x : Case). block_with x p i g) (case ∙ of_case)
      ∙ ap (λ (q : Point). block_with c q i g) (point ∙ ap (λ (q : Point). after_regrid q.time) at)
      ∙ ap (λ (j : BlockId). block_with c (after_regrid time) j g) (id ∙ ap parent_of named ∙ parent_of-child parent 0)
      ∙ ap (λ (h : Grid). block_with c (after_regrid time) parent h) (cells ∙ ap (λ (x : Case). octants_joined x.side (means_in parts)) of_case)

  pub first_below : (i : BlockId) → i ≡ e.id → 0 < level_of i
  first_below i is = let level : level_of i ≡ level_of parent + 1 = ap level_of (is ∙ named) ∙ level-child parent 0 in omega arith

  pub sides_at : (side : ℕ) → side ≡ e.case.side → All (λ (v : EighthValue). v.means.side ≡ side / 2) parts
  sides_at side fits = λ k d within.
      (are k d within).side ∙ ap (λ (x : Case). x.side / 2) (octet.cases k d within ∙ sym of_case) ∙ ap (λ s. s / 2) (sym fits)
