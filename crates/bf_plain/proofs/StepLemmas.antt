-- Leaves that are stepped one after another.
use Rattle.std.proofs.Common.{◌≡◌, ℕ, ◌<◌, List, length, get_or, map, refl, sym, ap, ◌∙◌, arith}
use Rattle.std.proofs.lemmas.Grind.{same_number_lists}
use Rattle.std.proofs.lemmas.List.{get_or-map, get_or_default, length-map, same_lists}
use Rattle.std.proofs.lemmas.List.Elements.{Contains-get_or}
use Rattle.bf_id.specs.declared.shape.Shape.{Shape}
use Rattle.bf_id.specs.Cube.{Cube}
use Rattle.bf_id.specs.Id.{BlockId, InShape, box_of}
use Rattle.bf_cells.specs.Grid.{Grid, grid_with}
use Rattle.bf_cells.specs.Kernel.{relaxed_grid}
use Rattle.bf_cells.specs.Shell.{Walls}
use Rattle.bf_cells.proofs.GridLemmas.{length-table, side-table}
use Rattle.bf_case.specs.declared.case.Case.{Case}
use Rattle.bf_case.specs.Around.{nothing}
use Rattle.bf_case.specs.Beside.{HoldSamples}
use Rattle.bf_case.specs.Map.{Leaf, ids_of}
use Rattle.bf_case.specs.Stencil.{stencil}
use Rattle.bf_case.proofs.BlockSteps as BlockSteps
use Rattle.bf_plain.specs.Atlas.{Chart, id_at}
use Rattle.bf_plain.specs.Step.{cube_of, stepped_cells, AreLoaded, HoldsStep}
use Rattle.bf_plain.specs.Survey.{IsCharted, IsSite}
use Rattle.bf_plain.proofs.AtlasLemmas.{id_of_leaf}
use Rattle.bf_plain.proofs.SiteLemmas.{IsKnown, known}

-- ---- a leaf that was read

pub site_of : (c : Case) (leaves : List Leaf) (chart : Chart) (k : ℕ) (d : Leaf) (box : Cube) → IsCharted c leaves chart → k < length leaves
    → box ≡ box_of c.roots (get_or leaves k d).0 → IsSite c leaves chart (get_or leaves k d).0 (get_or leaves k d).1 box
site_of c leaves chart k d box charted below boxed = record { charted = charted; found = Contains-get_or leaves k d below; boxed = boxed }

pub read_in_domain : (c : Case) (leaves : List Leaf) (chart : Chart) (k : ℕ) (d : Leaf) → IsCharted c leaves chart → k < length leaves
    → InShape c.roots (get_or leaves k d).0
read_in_domain c leaves chart k d charted below =
    let site = site_of c leaves chart k d (box_of c.roots (get_or leaves k d).0) charted below refl in
    (known c leaves chart (get_or leaves k d).0 (get_or leaves k d).1 _ site).in_shape

-- the kernel between the walls around it steps it
pub leaf_stepped : (c : Case) (leaves : List Leaf) (chart : Chart) (k : ℕ) (d : Leaf) (box : Cube) (walls : Walls) (into : Grid) → IsCharted c leaves chart
    → k < length leaves → d ≡ get_or leaves k d → box ≡ box_of c.roots (get_or leaves k d).0 → walls.side ≡ c.side
    → HoldSamples c.roots leaves (get_or leaves k d).0 (get_or leaves k d).1 walls → into ≡ relaxed_grid (get_or leaves k d).1 walls
    → into ≡ stepped_cells c.roots c.side leaves (id_at (ids_of leaves) k)
leaf_stepped c leaves chart k d box walls into charted below read boxed sides holds is =
    let i = (get_or leaves k d).0 in
    let g = (get_or leaves k d).1 in
    let site = site_of c leaves chart k d box charted below boxed in
    let facts : IsKnown c leaves i g = known c leaves chart i g box site in
    let stands = BlockSteps.leaf_stands c.roots c.side leaves i g walls facts.domain charted.map.map site.found facts.fits (sides ∙ sym facts.fits) holds in
    is ∙ sym (BlockSteps.stepped_cells c.roots leaves i g walls stands)
    ∙ ap (λ s. stepped_cells c.roots s leaves i) facts.fits
    ∙ ap (stepped_cells c.roots c.side leaves) (ap (λ (l : Leaf). l.0) (sym read) ∙ id_of_leaf leaves k d below read)

-- leaves that are loaded with the values of the step are the stencil
pub loaded_step : (shape : Shape) (side : ℕ) (old new : List Leaf) (fresh : List ℕ) → AreLoaded side old new fresh (length old) → HoldsStep shape side old fresh
    → new ≡ stencil shape side old
unfolding stencil
loaded_step shape side old new fresh loaded holds =
    let step : Leaf → Leaf = λ leaf. (leaf.0, stepped_cells shape side old leaf.0) in
    same_lists new (map step old) (loaded.full ∙ sym (length-map old step)) (λ k d h.
    let below : k < length old = omega (arith, loaded.full) in
    let leaf = get_or old k nothing in
    let table_at = stepped_cells shape side old leaf.0 in
    let name : (get_or new k nothing).0 ≡ leaf.0 = loaded.names k in
    let named : id_at (ids_of old) k ≡ leaf.0 = sym (id_of_leaf old k leaf below (get_or_default old k nothing leaf below)) in
    let values : (get_or new k nothing).1.values ≡ table_at.values =
    same_number_lists _ _ (loaded.lengths k below ∙ sym (length-table side _)) (λ j hj.
    let inside : j < cube_of side = omega (arith, loaded.lengths k below) in
    loaded.values j k inside below ∙ holds j k inside below ∙ ap (λ i. get_or (stepped_cells shape side old i).values j 0) named) in
    let sides : (get_or new k nothing).1.side ≡ table_at.side = loaded.sides k below ∙ sym (side-table side _) in
    let cells : (get_or new k nothing).1 ≡ table_at = ap (λ s. grid_with s (get_or new k nothing).1.values) sides ∙ ap (grid_with table_at.side) values in
    let pair : BlockId → Grid → Leaf = λ i g. (i, g) in
    get_or_default new k d nothing h ∙ ap (λ i. pair i (get_or new k nothing).1) name ∙ ap (pair leaf.0) cells
    ∙ sym (get_or-map step old k nothing d below))
