-- The means of a cube, and an octant that takes a list.
use Rattle.std.proofs.Common.{◌≡◌, ℕ, ◌*◌, ◌/◌, ◌%◌, ◌^◌, ◌<◌, ◌≤◌, ap, ◌∙◌, List, length, get_or, All, lit<, inl, inr}
use Rattle.std.proofs.lemmas.Bool.{cases_lt}
use Rattle.std.proofs.lemmas.List.{get_or_past}
use Rattle.bf_cells.specs.Grid.{Grid, IsGrid, grid_with, place, cell_at, table}
use Rattle.bf_cells.specs.Rows.{piece_at}
use Rattle.bf_cells.specs.Octant.{octant_x, octant_y, octant_z, mean_at, in_octant, part_mean, part_value}
use Rattle.bf_cells.specs.Means.{means_of, with_octant}
use Rattle.bf_cells.proofs.GridLemmas.{side-table, length-table, cell_small, cond_small, IsGrid-table}
use Rattle.bf_cells.proofs.OctantLemmas.{octant_table, table_by_rows}

pub side-means_of : (g : Grid) → (means_of g).side ≡ g.side / 2
unfolding means_of
side-means_of g = side-table (g.side / 2) (mean_at g)

pub length-means_of : (g : Grid) → length (means_of g).values ≡ g.side / 2 * (g.side / 2) * (g.side / 2)
unfolding means_of
length-means_of g = length-table (g.side / 2) (mean_at g)

-- a list whose rows hold the means
pub means_by_rows : (g : Grid) (side : ℕ) (cells values : List ℕ) → side ≡ g.side → cells ≡ g.values → length values ≡ side / 2 * (side / 2) * (side / 2)
    → ((k row : ℕ) → k < side / 2 → row < side / 2 * (side / 2) → piece_at values (side / 2) row k ≡ part_mean side cells k (row % (side / 2)) (row / (side / 2)))
    → values ≡ (means_of g).values
unfolding means_of part_mean
means_by_rows g side cells values es ec full rows =
    let source : grid_with side cells ≡ g = ap (λ s. grid_with s cells) es ∙ ap (grid_with g.side) ec in
    ap (λ (h : Grid). h.values) (table_by_rows (grid_with (side / 2) values) (mean_at (grid_with side cells)) full rows)
    ∙ ap (λ (h : Grid). (table (h.side / 2) (mean_at h)).values) source

-- a list whose rows hold other values in an octant
pub octant_loaded : (g : Grid) (octant side x0 y0 z0 : ℕ) (part old values : List ℕ) → side ≡ g.side → old ≡ g.values
    → x0 ≡ octant_x octant * (side / 2) → y0 ≡ octant_y octant * (side / 2) → z0 ≡ octant_z octant * (side / 2)
    → octant < 8 → side % 2 ≡ 0 → 2 ≤ side → length values ≡ side * side * side
    → ((k row : ℕ) → k < side → row < side * side → piece_at values side row k
    ≡ part_value side (cell_at (grid_with (side / 2) part)) x0 y0 z0 (piece_at old side row k) k (row % side) (row / side))
    → grid_with side values ≡ with_octant g octant part
unfolding with_octant
octant_loaded g octant side x0 y0 z0 part old values es eo ex ey ez low even two full rows =
    let source : grid_with side old ≡ g = ap (λ s. grid_with s old) es ∙ ap (grid_with g.side) eo in
    octant_table side octant (cell_at (grid_with (side / 2) part)) old values low even two full (rw (ex, ey, ez) at rows)
    ∙ ap (λ h. with_octant h octant part) source

-- a grid with small values in an octant is a grid
pub IsGrid-with_octant : (g : Grid) (octant : ℕ) (values : List ℕ) → IsGrid g → All (λ v. v < 2 ^ 32) values → IsGrid (with_octant g octant values)
unfolding with_octant
IsGrid-with_octant g octant values valid small =
    IsGrid-table g.side _ valid.even valid.low valid.high (λ x y z _ _ _.
    cond_small (in_octant g.side octant x y z) _ _
    (small_at (place (g.side / 2) (x % (g.side / 2)) (y % (g.side / 2)) (z % (g.side / 2)))) (cell_small g valid x y z))
  where
    small_at : (k : ℕ) → get_or values k 0 < 2 ^ 32
    small_at k = elim (cases_lt k (length values)) [ inl within ↦ small k 0 within | inr past ↦ rw (get_or_past values k 0 past) (lit< tt) ]
