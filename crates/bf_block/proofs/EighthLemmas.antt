-- Eighths of the model's leaves.
use Rattle.std.proofs.Common.{◌≡◌, ℕ, ◌*◌, ◌/◌, ◌≤◌, Option, Some, None, List, length, refl, ap, subst, sym, ◌∙◌, arith}
use Rattle.std.specs.Prelude.{option_map}
use Rattle.std.proofs.Math.Nat.{mul-le-mul}
use Rattle.std.proofs.lemmas.Option.{same_Some}
use Rattle.bf_id.specs.Id.{BlockId}
use Rattle.bf_cells.specs.Grid.{Grid, grid_with}
use Rattle.bf_cells.specs.Means.{means_of}
use Rattle.bf_cells.proofs.MeanLemmas.{side-means_of, length-means_of}
use Rattle.bf_case.specs.declared.case.Case.{Case}
use Rattle.bf_case.specs.declared.target.Target.TheVariants.{Merge}
use Rattle.bf_case.specs.Map.{cells_at}
use Rattle.bf_block.specs.declared.point.Point.{Point}
use Rattle.bf_block.specs.Block.{IsModels, IsRegriddedTo, map_at, block_with}
use Rattle.bf_block.specs.Eighth.{EighthValue, AreMeans, eighth_of}
use Rattle.bf_block.proofs.BlockLemmas.{block_side}

-- the means of cells of the case's side
means_is : (g : Grid) (side : ℕ) (values : List ℕ) → g.side ≡ side → values ≡ (means_of g).values → means_of g ≡ grid_with (side / 2) values
means_is g side values fits made =
    let same : (means_of g).side ≡ side / 2 = side-means_of g ∙ ap (λ s. s / 2) fits in
    λ k. record { side = same k; values = sym made k }

-- a merging leaf gives an eighth
pub eighth_are : (c : Case) (p : Point) (i : BlockId) (g : Grid) (values : List ℕ) → IsModels (block_with c p i g) → IsRegriddedTo Merge c p i → values ≡ (means_of g).values
    → AreMeans (record { case = c; point = p; id = i; means = grid_with (c.side / 2) values })
eighth_are c p i g values is does made = record {
  runs = is.runs;
  merges = does;
  means = ap (option_map means_of) is.leaf ∙ ap Some (means_is g c.side values (block_side (block_with c p i g) (block_with c p i g) refl is) made);
  side = refl;
}

pub eighth_view : (c : Case) (p : Point) (i : BlockId) (g : Grid) (values : List ℕ) → IsModels (block_with c p i g) → values ≡ (means_of g).values
    → ◌≡◌ {A = EighthValue} (record { case = c; point = p; id = i; means = grid_with (c.side / 2) values }) (eighth_of (block_with c p i g))
eighth_view c p i g values is made =
    ap (λ (h : Grid). record (eighth_of (block_with c p i g)) { means = h })
    (sym (means_is g c.side values (block_side (block_with c p i g) (block_with c p i g) refl is) made))

-- the cells of which they are the means
pub found_of : (o : Option Grid) (m : Grid) → option_map means_of o ≡ Some m → (g : Grid) × ((o ≡ Some g) × (means_of g ≡ m))
found_of None m e = absurd (cc)
found_of (Some g) m e = (g, (refl, same_Some (means_of g) m e))

-- an eighth has all of its means
means_full : (e : EighthValue) → AreMeans e → length e.means.values ≡ e.means.side * e.means.side * e.means.side
means_full e are =
    let found = found_of (cells_at (map_at e.case e.point) e.id) e.means are.means in
    let full : length (means_of found.0).values ≡ (means_of found.0).side * (means_of found.0).side * (means_of found.0).side =
    length-means_of found.0 ∙ ap (λ s. s * s * s) (sym (side-means_of found.0)) in
    subst (λ (m : Grid). length m.values ≡ m.side * m.side * m.side) found.1.1 full

-- they fit into an octant
pub means_fit : (e whole : EighthValue) (side : ℕ) (values : List ℕ) → e ≡ whole → AreMeans e → values ≡ e.means.values → whole.means.side ≡ side / 2
    → length values ≡ side / 2 * (side / 2) * (side / 2)
means_fit e whole side values same are items fits =
    ap length items ∙ means_full e are ∙ ap (λ s. s * s * s) (ap (λ (v : EighthValue). v.means.side) same ∙ fits)

-- and are few
pub few_means : (e : EighthValue) (values : List ℕ) → AreMeans e → values ≡ e.means.values → length values ≤ 512
few_means e values are items =
    let narrow : e.means.side ≤ 8 = omega (arith, are.side, are.runs.valid.sized.narrow) in
    let square : e.means.side * e.means.side ≤ 8 * 8 = mul-le-mul narrow narrow in
    let cube : e.means.side * e.means.side * e.means.side ≤ 8 * 8 * 8 = mul-le-mul square narrow in
    omega (arith, cube, ap length items, means_full e are)
