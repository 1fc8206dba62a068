-- The cells of a parent while its octants are written one after another.
use Rattle.std.proofs.Common.{◌≡◌, ℕ, ◌+◌, ◌*◌, ◌/◌, ◌%◌, ◌<◌, ◌≤◌, true, false, cond, eqb, List, [], length, get_or, inl, inr, All, ap, sym, ◌∙◌, arith}
use Rattle.std.proofs.lemmas.Bool.{cases_eq}
use Rattle.std.proofs.lemmas.Bool.Decides.{nat_tests}
use Rattle.std.proofs.lemmas.List.{get_or-map}
use Rattle.bf_cells.specs.Grid.{Grid, grid_with, cell_at, table, filled_with}
use Rattle.bf_cells.specs.Octant.{in_octant}
use Rattle.bf_cells.specs.Means.{with_octant}
use Rattle.bf_cells.proofs.GridLemmas.{length-table, cell_at-table, table_is}
use Rattle.bf_case.specs.Regrid.{octant_at}
use Rattle.bf_case.proofs.RegridCells.{octant_is, in_octant_is}
use Rattle.bf_block.specs.Eighth.{EighthValue, joined_value, means_in, octants_joined}

-- the first so many octants are written
pub record AreJoined (octants : List Grid) (count : ℕ) (g : Grid) : Type 0 where
  pub full : length g.values ≡ g.side * g.side * g.side
  pub cells : (x y z : ℕ) → x < g.side → y < g.side → z < g.side → octant_at (g.side / 2) x y z < count → cell_at g x y z ≡ joined_value g.side octants x y z

-- none is
pub joined_none : (octants : List Grid) (side : ℕ) → AreJoined octants 0 (filled_with side 0)
unfolding table
joined_none octants side = record {
  full = length-table side (λ _ _ _. 0);
  cells = λ x y z hx hy hz none. absurd (omega (arith, none));
}

-- what is known of one number, and of those below it
one_more : (n o a b v : ℕ) → n < o + 1 → (n ≡ o → a ≡ v) → (n < o → b ≡ v) → cond (eqb n o) a b ≡ v
one_more n o a b v within here before = elim (cases_eq n o) [
  | inl same ↦ let test : eqb n o ≡ true = grind (arith, nat_tests) in rw test (here same)
  | inr other ↦ let test : eqb n o ≡ false = grind (arith, nat_tests) in rw test (before (omega arith))
]

-- one more is
pub joined_more : (octants : List Grid) (o : ℕ) (old part : Grid) → old.side % 2 ≡ 0 → 2 ≤ old.side → o < 8 → part.side ≡ old.side / 2 → part ≡ get_or octants o (grid_with 0 [])
    → AreJoined octants o old → AreJoined octants (o + 1) (with_octant old o part.values)
unfolding with_octant table
joined_more octants o old part even wide octal fits is before =
    let half : ℕ = old.side / 2 in
    let twice : old.side ≡ half + half = omega arith in
    let f : ℕ → ℕ → ℕ → ℕ = λ x y z. cond (in_octant old.side o x y z) (cell_at (grid_with half part.values) (x % half) (y % half) (z % half)) (cell_at old x y z) in
    record {
      full = length-table old.side f;
      cells = λ x y z hx hy hz within.
          let n : ℕ = octant_at half x y z in
          let octant = octant_is half x y z (omega arith) (omega arith) (omega arith) (omega arith) in
          cell_at-table old.side f x y z hx hy hz
          ∙ ap (λ t. cond t (cell_at (grid_with half part.values) (x % half) (y % half) (z % half)) (cell_at old x y z)) (in_octant_is half o x y z octant octal)
          ∙ one_more n o _ _ _ within
          (λ same. ap (λ (g : Grid). cell_at g (x % half) (y % half) (z % half))
          (ap (λ s. grid_with s part.values) (sym fits) ∙ is ∙ ap (λ m. get_or octants m (grid_with 0 [])) (sym same)))
          (λ less. before.cells x y z hx hy hz less);
    }

-- all are
pub joined_all : (octants : List Grid) (count : ℕ) (g : Grid) → g.side % 2 ≡ 0 → 2 ≤ g.side → 8 ≤ count → AreJoined octants count g → g ≡ octants_joined g.side octants
unfolding octants_joined
joined_all octants count g even wide all joined =
    let half : ℕ = g.side / 2 in
    let twice : g.side ≡ half + half = omega arith in
    table_is g (joined_value g.side octants) joined.full (λ x y z hx hy hz.
    let octant = octant_is half x y z (omega arith) (omega arith) (omega arith) (omega arith) in
    joined.cells x y z hx hy hz (omega (arith, octant.octal, all)))

-- what one of some eighths has
pub part_side : (parts : List EighthValue) (side o : ℕ) (e d : EighthValue) → All (λ (e : EighthValue). e.means.side ≡ side / 2) parts → o < length parts → e ≡ get_or parts o d
    → e.means.side ≡ side / 2
part_side parts side o e d sides within is = ap (λ (v : EighthValue). v.means.side) is ∙ sides o d within

pub part_means : (parts : List EighthValue) (o : ℕ) (e d : EighthValue) → o < length parts → e ≡ get_or parts o d → e.means ≡ get_or (means_in parts) o (grid_with 0 [])
part_means parts o e d within is =
    ap (λ (v : EighthValue). v.means) is ∙ sym (get_or-map (λ (v : EighthValue). v.means) parts o d (grid_with 0 []) within)
