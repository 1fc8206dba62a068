-- Where all is told that lies beside a block, what surrounds it are the samples of the map.
use Rattle.std.proofs.Common.{◌≡◌, ℕ, zero, suc, ◌+◌, ◌<◌, ◌≤◌, List, [], ◌∷◌, length, take, get_or, Contains, refl, sym, ap, subst, ◌∙◌, arith}
use Rattle.std.specs.List.{fold}
use Rattle.std.proofs.lemmas.List.{take_more}
use Rattle.std.proofs.lemmas.List.Sums.{fold-append}
use Rattle.std.proofs.lemmas.List.Elements.{All-contains, All-get_or}
use Rattle.bf_face.specs.declared.face.Face.{Face}
use Rattle.bf_face.specs.declared.face.Face.TheVariants.{XLow, XHigh, YLow, YHigh, ZLow, ZHigh}
use Rattle.bf_id.specs.declared.shape.Shape.{Shape}
use Rattle.bf_id.specs.Id.{BlockId}
use Rattle.bf_id.specs.Shape.{IsShape}
use Rattle.bf_id.specs.Tiling.{IsBalanced}
use Rattle.bf_cells.specs.Grid.{Grid}
use Rattle.bf_cells.specs.Shell.{Walls, wall_at, wall_place, face_values}
use Rattle.bf_cells.proofs.WallLemmas.{get_or-face_values, side-with_wall}
use Rattle.bf_case.specs.Beside.{HoldSamples}
use Rattle.bf_case.specs.Map.{Leaf, IsMap, HasCells, ids_of}
use Rattle.bf_case.proofs.AcrossLemmas.{edge_beside}
use Rattle.bf_case.proofs.FaceLemmas.{leaf_is}
use Rattle.bf_ghost.specs.Filling.{AreStripsFor, HoldEdges, IsStripFor}
use Rattle.bf_ghost.specs.Strips.{StripValue, with_strip}
use Rattle.bf_ghost.proofs.FillLemmas.{PartsHold, all_hold, edges_stay, no_parts, one_part_more, part_holds, rest_stays}
use Rattle.bf_ghost.specs.Surrounding.{own_walls, surrounding}

-- walls keep their side
laid_side : (w : Walls) (strips : List StripValue) → (fold with_strip w strips).side ≡ w.side
laid_side w [] = refl
laid_side w (strip ∷ strips) = laid_side (with_strip w strip) strips ∙ side-with_wall w strip.face _

pub surrounding_side : (g : Grid) (strips : List StripValue) → (surrounding g strips).side ≡ g.side
unfolding surrounding
surrounding_side g strips = laid_side (own_walls g) strips

module _ (shape : Shape) (side : ℕ) (leaves : List Leaf) (i : BlockId) (g : Grid) (strips : List StripValue)
    (domain : IsShape shape) (is : IsMap shape side leaves) (balanced : IsBalanced shape (ids_of leaves)) (own : Contains leaves (i, g)) (are : AreStripsFor shape leaves i strips) where
  fits : g.side ≡ side
  fits = (All-contains (HasCells side) leaves (i, g) is.cells own).fits

  -- the walls with the first so many strips laid
  abbrev laid : ℕ → Walls
  laid count = fold with_strip (own_walls g) (take count strips)

  record AreLaid (count : ℕ) : Type 0 where
    edges : HoldEdges shape leaves i g (laid count)
    parts : PartsHold shape leaves i g (laid count) strips count

  one_more : (count : ℕ) → count < length strips → AreLaid count → AreLaid (count + 1)
  one_more count within so_far =
      let nothing : StripValue = record { source = i; target = i; face = XLow; values = [] } in
      let strip = get_or strips count nothing in
      let meant : IsStripFor shape leaves i strip = All-get_or (IsStripFor shape leaves i) strips count nothing within are.fit in
      let next : laid (count + 1) ≡ with_strip (laid count) strip =
      ap (fold with_strip (own_walls g)) (take_more strips count nothing within) ∙ fold-append with_strip (own_walls g) (take count strips) (strip ∷ []) in
      let sides : (laid count).side ≡ side = laid_side (own_walls g) (take count strips) ∙ fits in
      let part = part_holds shape side leaves i g (laid count) (laid (count + 1)) strip domain is balanced own sides meant next in
      let rest = rest_stays side i (laid count) (laid (count + 1)) strip sides (ap (λ (s : StripValue). s.target) meant.told) next in
      let same : strip ≡ get_or strips count strip = default_matters_not strips count nothing strip within in
      record {
        edges = edges_stay shape side leaves i g (laid count) (laid (count + 1)) strip domain is fits meant rest so_far.edges;
        parts = one_part_more shape side leaves i g (laid count) (laid (count + 1)) strips strip count fits within same part rest so_far.parts;
      }
    where
      default_matters_not : (xs : List StripValue) (k : ℕ) (d e : StripValue) → k < length xs → get_or xs k d ≡ get_or xs k e
      default_matters_not [] k d e within = absurd (omega arith)
      default_matters_not (x ∷ xs) zero d e within = refl
      default_matters_not (x ∷ xs) (suc k) d e within = default_matters_not xs k d e (omega (arith, within))

  own_edges : HoldEdges shape leaves i g (own_walls g)
  own_edges face edge a b a_in b_in =
      let its = leaf_is shape side leaves i g domain is own in
      let low = its.low in
      let same = its.fits in
      at face a b ∙ get_or-face_values g face a b a_in b_in ∙ sym (edge_beside shape leaves i g face a b (omega arith) its.ends.edge edge)
    where
      at : (face : Face) (a b : ℕ) → wall_at (own_walls g) face a b ≡ get_or (face_values g face) (wall_place g.side a b) 0
      at XLow a b = refl
      at XHigh a b = refl
      at YLow a b = refl
      at YHigh a b = refl
      at ZLow a b = refl
      at ZHigh a b = refl

  all_laid : (count : ℕ) → count ≤ length strips → AreLaid count
  all_laid zero within = record { edges = own_edges; parts = no_parts shape leaves i g (own_walls g) strips }
  all_laid (suc count) within =
      subst AreLaid (let e : count + 1 ≡ suc count = omega arith in e) (one_more count (omega (arith, within)) (all_laid count (omega (arith, within))))

  pub surrounding_holds : HoldSamples shape leaves i g (surrounding g strips)
  unfolding surrounding
  surrounding_holds =
      let whole = all_laid (length strips) (omega arith) in
      let same : laid (length strips) ≡ fold with_strip (own_walls g) strips = ap (fold with_strip (own_walls g)) (take_all strips) in
      subst (HoldSamples shape leaves i g) same (all_hold shape side leaves i g (laid (length strips)) strips domain is balanced own are whole.edges whole.parts)
    where
      take_all : (xs : List StripValue) → take (length xs) xs ≡ xs
      take_all [] = refl
      take_all (x ∷ xs) = ap (λ ys. x ∷ ys) (take_all xs)
