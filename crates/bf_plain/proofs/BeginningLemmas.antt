-- Fills painted into roots, and what the roots have after each.
use Rattle.std.proofs.Common.{◌≡◌, ℕ, true, false, ◌+◌, ◌*◌, ◌/◌, ◌<◌, ◌≤◌, ◌&&◌, cond, List, [], ◌∷◌, ◌++◌, length, get_or, take, map, ◌⊎◌, inl, inr, ◌↔◌, refl, sym, ap, ◌∙◌, arith}
use Rattle.std.specs.Prelude.{slice_index, nat_le}
use Rattle.std.specs.List.{range_with_len}
use Rattle.std.proofs.Math.ListN.{set, length-set}
use Rattle.std.proofs.Math.Nat.{le-div_iff_mul-le, div-lt_iff_lt-mul}
use Rattle.std.proofs.lemmas.Bool.{cases_eq, cases_lt, cases_Bool, leb-true}
use Rattle.std.proofs.lemmas.List.Sums.{fold_more}
use Rattle.std.proofs.lemmas.List.{get_or-set_same, get_or-set_other, get_or_read}
use Rattle.std.proofs.lemmas.List.FromFn.{fill_by_all, get_or-map-range_with_len, length-map-range_with_len, map-range_with_len_more}
use Rattle.bf_id.specs.Cube.{Voxel}
use Rattle.bf_id.specs.Shape.{root_count}
use Rattle.bf_id.specs.Id.{BlockId, root_id}
use Rattle.bf_cells.specs.Grid.{Grid, filled_with}
use Rattle.bf_cells.proofs.GridLemmas.{same_tables}
use Rattle.bf_cells.proofs.OctantLemmas.{and-true}
use Rattle.bf_case.specs.declared.case.Case.{Case}
use Rattle.bf_case.specs.declared.case.Fill.{Fill}
use Rattle.bf_case.specs.Around.{nothing}
use Rattle.bf_case.specs.Filling.{with_fill, filled_grid}
use Rattle.bf_case.specs.Map.{Leaf}
use Rattle.bf_case.specs.Model.{first_cell, filled_root, filled_value, has_cell, initial, is_between}
use Rattle.bf_case.specs.Sample.{moved}
use Rattle.bf_case.proofs.BoxLemmas.{filled_more}
use Rattle.bf_plain.specs.Atlas.{place_of, box_at}
use Rattle.bf_plain.specs.Beginning.{IsMet, IsMetBy, IsMetInLayer, IsMetInRow, Paints, leaf_of, painted_root, root_place, roots_after}
use Rattle.bf_plain.proofs.AtlasLemmas.{box_at-place_of, place_of-box_at}

-- ---- painting some roots, and then others

pub Paints-none : (c : Case) (f : Fill) (some : ℕ → Type 0) (leaves : List Leaf) → ((root : ℕ) → some root → ⊥) → Paints c f some leaves leaves
Paints-none c f some leaves none = record {
  full = refl;
  painted = λ root below is. absurd (none root is);
  kept = λ root not. refl;
}

pub Paints-one : (c : Case) (f : Fill) (r : ℕ) (leaves : List Leaf) (old : Leaf) (cells : Grid) → r < length leaves
    → old ≡ get_or leaves r old → cells ≡ with_fill (get_or leaves r old).1 (first_cell c.roots c.side r) f
    → Paints c f (λ root. root ≡ r) leaves (set leaves r ((get_or leaves r old).0, cells))
Paints-one c f r leaves old cells below was is =
    let new : Leaf = ((get_or leaves r old).0, cells) in
    let was_there : get_or leaves r old ≡ leaf_of leaves r = sym was ∙ get_or_read leaves r old below was nothing in
    let with_cells : Grid → Leaf = λ g. ((get_or leaves r old).0, g) in
    record {
      full = length-set leaves r new;
      painted = λ root inside same. rw same (get_or-set_same leaves r new nothing below ∙ ap with_cells is ∙ ap (painted_root c f r) was_there);
      kept = λ root other. get_or-set_other leaves r root new nothing other;
    }

pub Paints-then : (c : Case) (f : Fill) (p q r : ℕ → Type 0) (a b d : List Leaf) → Paints c f p a b → Paints c f q b d
    → ((root : ℕ) → p root → q root → ⊥) → ((root : ℕ) → r root → p root ⊎ q root) → ((root : ℕ) → p root → r root) → ((root : ℕ) → q root → r root)
    → Paints c f r a d
Paints-then c f p q r a b d first second apart either from_p from_q = record {
  full = second.full ∙ first.full;
  painted = λ root below is. elim (either root is) [
    | inl early ↦ second.kept root (apart root early) ∙ first.painted root below early
    | inr late ↦ second.painted root (omega (arith, first.full, below)) late
        ∙ ap (painted_root c f root) (first.kept root (λ early. apart root early late))
  ];
  kept = λ root not. second.kept root (λ late. not (from_q root late)) ∙ first.kept root (λ early. not (from_p root early));
}

pub Paints-same : (c : Case) (f : Fill) (p q : ℕ → Type 0) (a b : List Leaf) → Paints c f p a b → ((root : ℕ) → p root → q root) → ((root : ℕ) → q root → p root)
    → Paints c f q a b
Paints-same c f p q a b paints on back = record {
  full = paints.full;
  painted = λ root below is. paints.painted root below (back root is);
  kept = λ root not. paints.kept root (λ is. not (on root is));
}

-- ---- a row, root by root

-- the roots of a row that had their turn
pub record RowBefore (c : Case) (f : Fill) (y z x root : ℕ) : Type 0 where
  pub met : IsMetInRow c f y z root
  pub early : (root_place c root).x < x

pub RowBefore-none : (c : Case) (f : Fill) (y z x : ℕ) (leaves : List Leaf) → x ≡ slice_index f.low 0 / c.side → Paints c f (RowBefore c f y z x) leaves leaves
RowBefore-none c f y z x leaves from =
    Paints-none c f (RowBefore c f y z x) leaves (λ root is. omega (arith, from, is.early, is.met.along_x.from))

pub RowBefore-more : (c : Case) (f : Fill) (y z x from end r : ℕ) (begun leaves after : List Leaf) → Paints c f (RowBefore c f y z x) begun leaves
    → x < c.roots.nx → y < c.roots.ny → from ≡ slice_index f.low 0 / c.side → from ≤ x → end ≡ slice_index f.high 0 / c.side + 1 → x < end
    → r ≡ place_of c.roots.nx c.roots.ny (record { x = x; y = y; z = z }) → Paints c f (λ root. root ≡ r) leaves after
    → Paints c f (RowBefore c f y z (x + 1)) begun after
RowBefore-more c f y z x from end r begun leaves after so_far x_in y_in starts reached ends before_end numbered one =
    let at : Voxel = record { x = x; y = y; z = z } in
    let stands : root_place c r ≡ at = ap (box_at c.roots.nx c.roots.ny) numbered ∙ box_at-place_of c.roots.nx c.roots.ny at x_in y_in in
    let stands_here : (root : ℕ) → root ≡ r → root_place c root ≡ at = λ root same. ap (root_place c) same ∙ stands in
    let here : (root : ℕ) → root ≡ r → RowBefore c f y z (x + 1) root = λ root same.
    let e = stands_here root same in
    let at_x : (root_place c root).x ≡ x = ap (λ (v : Voxel). v.x) e in
    record {
      met = record {
        along_x = record { from = omega (arith, at_x, starts, reached); upto = omega (arith, at_x, ends, before_end) };
        in_row = ap (λ (v : Voxel). v.y) e;
        in_layer = ap (λ (v : Voxel). v.z) e;
      };
      early = omega (arith, at_x);
    } in
    Paints-then c f (RowBefore c f y z x) (λ root. root ≡ r) (RowBefore c f y z (x + 1)) begun leaves after so_far one
    (λ root early same. let e = ap (λ (v : Voxel). v.x) (stands_here root same) in omega (arith, e, early.early))
    (λ root is. elim (cases_eq (root_place c root).x x) [
      | inl now ↦ inr (sym (place_of-box_at c.roots.nx c.roots.ny root)
          ∙ ap (place_of c.roots.nx c.roots.ny) (voxels_same (root_place c root) at now is.met.in_row is.met.in_layer) ∙ sym numbered)
      | inr other ↦ inl (record { met = is.met; early = omega (arith, is.early, other) })
    ])
    (λ root early. record { met = early.met; early = omega (arith, early.early) })
    here
  where
    voxels_same : (v w : Voxel) → v.x ≡ w.x → v.y ≡ w.y → v.z ≡ w.z → v ≡ w
    voxels_same v w x y z = λ k. record { x = x k; y = y k; z = z k }

pub RowBefore-all : (c : Case) (f : Fill) (y z x : ℕ) (begun leaves : List Leaf) → slice_index f.high 0 / c.side + 1 ≤ x
    → Paints c f (RowBefore c f y z x) begun leaves → Paints c f (IsMetInRow c f y z) begun leaves
RowBefore-all c f y z x begun leaves all paints =
    Paints-same c f (RowBefore c f y z x) (IsMetInRow c f y z) begun leaves paints
    (λ root is. is.met)
    (λ root is. record { met = is; early = omega (arith, is.along_x.upto, all) })

-- ---- a layer, row by row

-- the roots of a layer that had their turn
pub record LayerBefore (c : Case) (f : Fill) (z y root : ℕ) : Type 0 where
  pub met : IsMetInLayer c f z root
  pub early : (root_place c root).y < y

pub LayerBefore-none : (c : Case) (f : Fill) (z y : ℕ) (leaves : List Leaf) → y ≡ slice_index f.low 1 / c.side → Paints c f (LayerBefore c f z y) leaves leaves
LayerBefore-none c f z y leaves from =
    Paints-none c f (LayerBefore c f z y) leaves (λ root is. omega (arith, from, is.early, is.met.along_y.from))

pub LayerBefore-more : (c : Case) (f : Fill) (z y from end : ℕ) (begun leaves after : List Leaf) → Paints c f (LayerBefore c f z y) begun leaves
    → from ≡ slice_index f.low 1 / c.side → from ≤ y → end ≡ slice_index f.high 1 / c.side + 1 → y < end
    → Paints c f (IsMetInRow c f y z) leaves after → Paints c f (LayerBefore c f z (y + 1)) begun after
LayerBefore-more c f z y from end begun leaves after so_far starts reached ends before_end row =
    Paints-then c f (LayerBefore c f z y) (IsMetInRow c f y z) (LayerBefore c f z (y + 1)) begun leaves after so_far row
    (λ root early now. omega (arith, early.early, now.in_row))
    (λ root is. elim (cases_eq (root_place c root).y y) [
      | inl now ↦ inr (record { along_x = is.met.along_x; in_row = now; in_layer = is.met.in_layer })
      | inr other ↦ inl (record { met = is.met; early = omega (arith, is.early, other) })
    ])
    (λ root early. record { met = early.met; early = omega (arith, early.early) })
    (λ root now. record {
      met = record {
        along_x = now.along_x;
        along_y = record { from = omega (arith, now.in_row, starts, reached); upto = omega (arith, now.in_row, ends, before_end) };
        in_layer = now.in_layer;
      };
      early = omega (arith, now.in_row);
    })

pub LayerBefore-all : (c : Case) (f : Fill) (z y : ℕ) (begun leaves : List Leaf) → slice_index f.high 1 / c.side + 1 ≤ y
    → Paints c f (LayerBefore c f z y) begun leaves → Paints c f (IsMetInLayer c f z) begun leaves
LayerBefore-all c f z y begun leaves all paints =
    Paints-same c f (LayerBefore c f z y) (IsMetInLayer c f z) begun leaves paints
    (λ root is. is.met)
    (λ root is. record { met = is; early = omega (arith, is.along_y.upto, all) })

-- ---- a fill, layer by layer

-- the roots that had their turn
pub record FillBefore (c : Case) (f : Fill) (z root : ℕ) : Type 0 where
  pub met : IsMetBy c f root
  pub early : (root_place c root).z < z

pub FillBefore-none : (c : Case) (f : Fill) (z : ℕ) (leaves : List Leaf) → z ≡ slice_index f.low 2 / c.side → Paints c f (FillBefore c f z) leaves leaves
FillBefore-none c f z leaves from =
    Paints-none c f (FillBefore c f z) leaves (λ root is. omega (arith, from, is.early, is.met.along_z.from))

pub FillBefore-more : (c : Case) (f : Fill) (z from end : ℕ) (begun leaves after : List Leaf) → Paints c f (FillBefore c f z) begun leaves
    → from ≡ slice_index f.low 2 / c.side → from ≤ z → end ≡ slice_index f.high 2 / c.side + 1 → z < end
    → Paints c f (IsMetInLayer c f z) leaves after → Paints c f (FillBefore c f (z + 1)) begun after
FillBefore-more c f z from end begun leaves after so_far starts reached ends before_end layer =
    Paints-then c f (FillBefore c f z) (IsMetInLayer c f z) (FillBefore c f (z + 1)) begun leaves after so_far layer
    (λ root early now. omega (arith, early.early, now.in_layer))
    (λ root is. elim (cases_eq (root_place c root).z z) [
      | inl now ↦ inr (record { along_x = is.met.along_x; along_y = is.met.along_y; in_layer = now })
      | inr other ↦ inl (record { met = is.met; early = omega (arith, is.early, other) })
    ])
    (λ root early. record { met = early.met; early = omega (arith, early.early) })
    (λ root now. record {
      met = record {
        along_x = now.along_x;
        along_y = now.along_y;
        along_z = record { from = omega (arith, now.in_layer, starts, reached); upto = omega (arith, now.in_layer, ends, before_end) };
      };
      early = omega (arith, now.in_layer);
    })

pub FillBefore-all : (c : Case) (f : Fill) (z : ℕ) (begun leaves : List Leaf) → slice_index f.high 2 / c.side + 1 ≤ z
    → Paints c f (FillBefore c f z) begun leaves → Paints c f (IsMetBy c f) begun leaves
FillBefore-all c f z begun leaves all paints =
    Paints-same c f (FillBefore c f z) (IsMetBy c f) begun leaves paints
    (λ root is. is.met)
    (λ root is. record { met = is; early = omega (arith, is.along_z.upto, all) })

-- ---- fills in turn

-- a root after these fills
abbrev pub root_after : Case → List Fill → ℕ → Leaf
root_after c fills root = filled_root (record c { fills = fills }) root

pub roots_after_are : (c : Case) (fills : List Fill) (k : ℕ) → k < root_count c.roots → leaf_of (roots_after c fills) k ≡ root_after c fills k
unfolding initial
roots_after_are c fills k below = get_or-map-range_with_len (root_after c fills) 0 (root_count c.roots) k k nothing below (omega arith)

pub length-roots_after : (c : Case) (fills : List Fill) → length (roots_after c fills) ≡ root_count c.roots
unfolding initial
length-roots_after c fills = length-map-range_with_len (root_after c fills) 0 (root_count c.roots)

-- along an axis, a stretch that has a cell of a root meets the root
met_along : (side low high at cell : ℕ) → 0 < side → cell < side → low ≤ side * at + cell → side * at + cell ≤ high → IsMet side low high at
met_along side low high at cell some inside above below =
    let from : (low / side < at + 1) ↔ (low < (at + 1) * side) = div-lt_iff_lt-mul some in
    let upto : (at ≤ high / side) ↔ (at * side ≤ high) = le-div_iff_mul-le some in
    let end : low < (at + 1) * side = omega arith in
    let start : at * side ≤ high = omega arith in
    let first : low / side < at + 1 = from.1 end in
    record { from = omega (arith, first); upto = upto.1 start }

between_is : (low high n : ℕ) → is_between low high n ≡ true → (low ≤ n) × (n ≤ high)
between_is low high n is = let both = and-true (nat_le low n) (nat_le n high) is in (leb-true low n both.0, leb-true n high both.1)

-- a fill that has a cell of a root meets the root
met_by_cell : (c : Case) (f : Fill) (root x y z : ℕ) → 0 < c.side → x < c.side → y < c.side → z < c.side
    → has_cell f (moved (first_cell c.roots c.side root) x y z) ≡ true → IsMetBy c f root
met_by_cell c f root x y z some x_in y_in z_in has =
    let p : Voxel = moved (first_cell c.roots c.side root) x y z in
    let in_x = is_between (slice_index f.low 0) (slice_index f.high 0) p.x in
    let in_y = is_between (slice_index f.low 1) (slice_index f.high 1) p.y in
    let in_z = is_between (slice_index f.low 2) (slice_index f.high 2) p.z in
    let outer = and-true (in_x && in_y) in_z has in
    let inner = and-true in_x in_y outer.0 in
    let at_x = between_is (slice_index f.low 0) (slice_index f.high 0) p.x inner.0 in
    let at_y = between_is (slice_index f.low 1) (slice_index f.high 1) p.y inner.1 in
    let at_z = between_is (slice_index f.low 2) (slice_index f.high 2) p.z outer.1 in
    let at = root_place c root in
    record {
      along_x = met_along c.side (slice_index f.low 0) (slice_index f.high 0) at.x x some x_in at_x.0 at_x.1;
      along_y = met_along c.side (slice_index f.low 1) (slice_index f.high 1) at.y y some y_in at_y.0 at_y.1;
      along_z = met_along c.side (slice_index f.low 2) (slice_index f.high 2) at.z z some z_in at_z.0 at_z.1;
    }

misses : (c : Case) (f : Fill) (root x y z : ℕ) → 0 < c.side → x < c.side → y < c.side → z < c.side
    → (IsMetBy c f root → ⊥) → has_cell f (moved (first_cell c.roots c.side root) x y z) ≡ false
misses c f root x y z some x_in y_in z_in unmet = by (cases_Bool (has_cell f (moved (first_cell c.roots c.side root) x y z)))
  where
    by : (has_cell f (moved (first_cell c.roots c.side root) x y z) ≡ true) ⊎ (has_cell f (moved (first_cell c.roots c.side root) x y z) ≡ false)
        → has_cell f (moved (first_cell c.roots c.side root) x y z) ≡ false
    by (inl has) = absurd (unmet (met_by_cell c f root x y z some x_in y_in z_in has))
    by (inr not) = not

-- a root into which a fill is painted
painted_next : (c : Case) (fills : List Fill) (i root : ℕ) (d : Fill) → i < length fills
    → painted_root c (get_or fills i d) root (root_after c (take i fills) root) ≡ root_after c (take (i + 1) fills) root
unfolding filled_grid
painted_next c fills i root d inside =
    let named : Grid → Leaf = λ g. (root_id root, g) in
    ap named (filled_more c.side (first_cell c.roots c.side root) fills i d inside)

-- and a root that the fill doesn't meet
missed_next : (c : Case) (fills : List Fill) (i root : ℕ) (d : Fill) → i < length fills → 0 < c.side → (IsMetBy c (get_or fills i d) root → ⊥)
    → root_after c (take i fills) root ≡ root_after c (take (i + 1) fills) root
missed_next c fills i root d inside some unmet =
    let f = get_or fills i d in
    let first = first_cell c.roots c.side root in
    let named : Grid → Leaf = λ g. (root_id root, g) in
    let set : Voxel → ℕ → Fill → ℕ = λ p v g. cond (has_cell g p) g.value v in
    ap named (same_tables c.side (λ x y z. filled_value (take i fills) (moved first x y z)) (λ x y z. filled_value (take (i + 1) fills) (moved first x y z))
    (λ x y z x_in y_in z_in.
    sym (fold_more (set (moved first x y z)) 0 fills i d inside
    ∙ ap (λ t. cond t f.value (filled_value (take i fills) (moved first x y z))) (misses c f root x y z some x_in y_in z_in unmet))))

met_or_not : (side low high at : ℕ) → IsMet side low high at ⊎ (IsMet side low high at → ⊥)
met_or_not side low high at = by (cases_lt at (low / side)) (cases_lt (high / side) at)
  where
    by : (at < low / side) ⊎ (low / side ≤ at) → (high / side < at) ⊎ (at ≤ high / side) → IsMet side low high at ⊎ (IsMet side low high at → ⊥)
    by (inl before) _ = inr (λ is. omega (arith, before, is.from))
    by (inr from) (inl beyond) = inr (λ is. omega (arith, beyond, is.upto))
    by (inr from) (inr upto) = inl (record { from = from; upto = upto })

met_by_or_not : (c : Case) (f : Fill) (root : ℕ) → IsMetBy c f root ⊎ (IsMetBy c f root → ⊥)
met_by_or_not c f root =
    let at = root_place c root in
    by (met_or_not c.side (slice_index f.low 0) (slice_index f.high 0) at.x) (met_or_not c.side (slice_index f.low 1) (slice_index f.high 1) at.y)
    (met_or_not c.side (slice_index f.low 2) (slice_index f.high 2) at.z)
  where
    by : IsMet c.side (slice_index f.low 0) (slice_index f.high 0) (root_place c root).x ⊎ (IsMet c.side (slice_index f.low 0) (slice_index f.high 0) (root_place c root).x → ⊥)
        → IsMet c.side (slice_index f.low 1) (slice_index f.high 1) (root_place c root).y ⊎ (IsMet c.side (slice_index f.low 1) (slice_index f.high 1) (root_place c root).y → ⊥)
        → IsMet c.side (slice_index f.low 2) (slice_index f.high 2) (root_place c root).z ⊎ (IsMet c.side (slice_index f.low 2) (slice_index f.high 2) (root_place c root).z → ⊥)
        → IsMetBy c f root ⊎ (IsMetBy c f root → ⊥)
    by (inl x) (inl y) (inl z) = inl (record { along_x = x; along_y = y; along_z = z })
    by (inl x) (inl y) (inr far) = inr (λ is. far is.along_z)
    by (inl x) (inr far) _ = inr (λ is. far is.along_y)
    by (inr far) _ _ = inr (λ is. far is.along_x)

-- one more fill, painted into the roots that it meets
pub fill_is_painted : (c : Case) (fills : List Fill) (i : ℕ) (d : Fill) (before after : List Leaf) → 0 < c.side → i < length fills
    → before ≡ roots_after c (take i fills) → Paints c (get_or fills i d) (IsMetBy c (get_or fills i d)) before after
    → after ≡ roots_after c (take (i + 1) fills)
unfolding initial
fill_is_painted c fills i d before after some inside begun paints =
    let f = get_or fills i d in
    let count : length before ≡ root_count c.roots = ap length begun ∙ length-roots_after c (take i fills) in
    let was : (k : ℕ) → k < root_count c.roots → leaf_of before k ≡ root_after c (take i fills) k =
    λ k below. ap (λ l. leaf_of l k) begun ∙ roots_after_are c (take i fills) k below in
    fill_by_all (root_after c (take (i + 1) fills)) after (root_count c.roots) nothing (paints.full ∙ count)
    (λ k below. elim (met_by_or_not c f k) [
      | inl met ↦ paints.painted k (omega (arith, count, below)) met ∙ ap (painted_root c f k) (was k below) ∙ painted_next c fills i k d inside
      | inr unmet ↦ paints.kept k unmet ∙ was k below ∙ missed_next c fills i k d inside some unmet
    ])

-- the same of a list that equals these fills
pub next_fill_is_painted : (c : Case) (fills slice : List Fill) (i : ℕ) (d : Fill) (before after : List Leaf) → slice ≡ fills → 0 < c.side → i < length slice
    → before ≡ roots_after c (take i fills) → Paints c (get_or slice i d) (IsMetBy c (get_or slice i d)) before after
    → after ≡ roots_after c (take (i + 1) fills)
next_fill_is_painted c fills slice i d before after same some inside begun paints =
    fill_is_painted c slice i d before after some inside (begun ∙ ap (λ l. roots_after c (take i l)) (sym same)) paints
    ∙ ap (λ l. roots_after c (take (i + 1) l)) same

-- ---- roots with cells of 0

pub blank_root : (c : Case) (k : ℕ) (i : BlockId) (g : Grid) → i ≡ root_id k → g ≡ filled_with c.side 0 → ◌≡◌ {A = Leaf} (i, g) (root_after c [] k)
blank_root c k i g id cells =
    let named : BlockId → Leaf = λ j. (j, g) in
    let with_cells : Grid → Leaf = λ h. (root_id k, h) in
    ap named id ∙ ap with_cells cells

pub blank_more : (c : Case) (leaves after : List Leaf) (k : ℕ) (leaf : Leaf) → leaves ≡ map (root_after c []) (range_with_len 0 k) → leaf ≡ root_after c [] k
    → after ≡ leaves ++ leaf ∷ [] → after ≡ map (root_after c []) (range_with_len 0 (k + 1))
blank_more c leaves after k leaf so_far is pushed =
    pushed ∙ ap (λ l. l ++ leaf ∷ []) so_far ∙ ap (λ y. map (root_after c []) (range_with_len 0 k) ++ y ∷ []) is
    ∙ sym (map-range_with_len_more (root_after c []) 0 k k (omega arith))

pub blank_all : (c : Case) (leaves : List Leaf) (k : ℕ) → leaves ≡ map (root_after c []) (range_with_len 0 k) → k ≡ root_count c.roots → leaves ≡ roots_after c []
unfolding initial
blank_all c leaves k are all = are ∙ ap (λ m. map (root_after c []) (range_with_len 0 m)) all
