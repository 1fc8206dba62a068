-- The cells of a parent while the octants of its children are written one after another.
use Rattle.std.proofs.Common.{◌≡◌, ℕ, ◌+◌, ◌*◌, ◌/◌, ◌%◌, ◌<◌, true, false, cond, eqb, ltb, ◌&&◌, inl, inr, refl, sym, ap, ◌∙◌, arith}
use Rattle.std.specs.Prelude.{nat_lt, if◌then◌else◌}
use Rattle.std.proofs.lemmas.Bool.{cases_order, cond-true, cond-false, lt-ltb, le-ltb}
use Rattle.std.proofs.lemmas.Bool.Decides.{nat_tests}
use Rattle.bf_cells.specs.Grid.{Grid, cell_at, table, filled_with}
use Rattle.bf_cells.specs.Octant.{octant_x, octant_y, octant_z, mean_at, in_octant, with_octant_mean}
use Rattle.bf_cells.proofs.GridLemmas.{side-table, cell_at-table, same_tables}
use Rattle.bf_case.specs.Regrid.{octant_at, merged_grid}
use Rattle.bf_case.proofs.RegridCells.{octant_is, in_octant_is}

-- the parent's cells where the first so many children are written, and the others are 0
unfoldable pub merging_grid : ℕ → (ℕ → Grid) → ℕ → Grid
merging_grid side child count =
    let half = side / 2 in
    table side (λ x y z. if nat_lt (octant_at half x y z) count then mean_at (child (octant_at half x y z)) (x % half) (y % half) (z % half) else 0)

pub side-merging_grid : (side : ℕ) (child : ℕ → Grid) (count : ℕ) → (merging_grid side child count).side ≡ side
unfolding merging_grid
side-merging_grid side child count = side-table side _

-- no child is written
pub merging_grid-none : (side : ℕ) (child : ℕ → Grid) → filled_with side 0 ≡ merging_grid side child 0
unfolding merging_grid
merging_grid-none side child =
    let half : ℕ = side / 2 in
    same_tables side (λ _ _ _. 0) (λ x y z. if nat_lt (octant_at half x y z) 0 then mean_at (child (octant_at half x y z)) (x % half) (y % half) (z % half) else 0)
    (λ x y z _ _ _. sym (cond-false (nat_lt (octant_at half x y z) 0) (mean_at (child (octant_at half x y z)) (x % half) (y % half) (z % half)) 0
    (le-ltb (octant_at half x y z) 0 (omega arith))))

-- all are written
pub merging_grid-all : (side half : ℕ) (child : ℕ → Grid) → side ≡ half + half → 0 < half → merging_grid side child 8 ≡ merged_grid side child
unfolding merging_grid merged_grid
merging_grid-all side half child twice some =
    let is_half : side / 2 ≡ half = omega arith in
    rw is_half (same_tables side _ _ (λ x y z hx hy hz.
    let octant = octant_is half x y z some (omega arith) (omega arith) (omega arith) in
    let o : ℕ = octant_at half x y z in
    cond-true (nat_lt o 8) (mean_at (child o) (x % half) (y % half) (z % half)) 0 (lt-ltb o 8 octant.octal)))

-- what is known up to one number, and at it
one_more : (value : ℕ → ℕ) (n o : ℕ) → cond (eqb n o) (value o) (cond (ltb n o) (value n) 0) ≡ cond (ltb n (o + 1)) (value n) 0
one_more value n o = elim (cases_order n o) [
  | inl same ↦
      let here : eqb n o ≡ true = grind (arith, nat_tests) in
      let below : ltb n (o + 1) ≡ true = lt-ltb n (o + 1) (omega arith) in
      rw (here, below) (ap value (sym same))
  | inr (inl less) ↦
      let other : eqb n o ≡ false = grind (arith, nat_tests) in
      let before : ltb n o ≡ true = lt-ltb n o less in
      let below : ltb n (o + 1) ≡ true = lt-ltb n (o + 1) (omega arith) in
      rw (other, before, below) refl
  | inr (inr more) ↦
      let other : eqb n o ≡ false = grind (arith, nat_tests) in
      let before : ltb n o ≡ false = le-ltb n o (omega arith) in
      let below : ltb n (o + 1) ≡ false = le-ltb n (o + 1) (omega arith) in
      rw (other, before, below) refl
]

-- one more child is written
pub merging_grid-more : (side half : ℕ) (child : ℕ → Grid) (o : ℕ) → side ≡ half + half → 0 < half → o < 8
    → with_octant_mean (child o) o (merging_grid side child o) ≡ merging_grid side child (o + 1)
unfolding merging_grid with_octant_mean
merging_grid-more side half child o twice some octal =
    let is_half : side / 2 ≡ half = omega arith in
    let value : ℕ → ℕ → ℕ → ℕ → ℕ = λ x y z n. mean_at (child n) (x % half) (y % half) (z % half) in
    let into : ℕ → Grid = λ h. table side (λ x y z. if nat_lt (octant_at h x y z) o then mean_at (child (octant_at h x y z)) (x % h) (y % h) (z % h) else 0) in
    ap (λ s. table s (λ x y z. if in_octant s o x y z then mean_at (child o) (x % (s / 2)) (y % (s / 2)) (z % (s / 2)) else cell_at (into (side / 2)) x y z)) (side-table side _)
    ∙ rw is_half (same_tables side _ _ (λ x y z hx hy hz.
    let n : ℕ = octant_at half x y z in
    let octant = octant_is half x y z some (omega arith) (omega arith) (omega arith) in
    let old = cell_at-table side (λ x y z. if nat_lt (octant_at half x y z) o then mean_at (child (octant_at half x y z)) (x % half) (y % half) (z % half) else 0) x y z hx hy hz in
    ap (λ v. cond (eqb (x / half) (octant_x o) && eqb (y / half) (octant_y o) && eqb (z / half) (octant_z o)) (value x y z o) v) old
    ∙ ap (λ t. cond t (value x y z o) (cond (ltb n o) (value x y z n) 0)) (in_octant_is half o x y z octant octal)
    ∙ one_more (value x y z) n o))
