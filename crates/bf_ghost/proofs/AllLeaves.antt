-- Blocks of all leaves: after the regrid of time 0, and where they lie.
use Rattle.std.proofs.Common.{◌≡◌, ◌∙◌, ◌+◌, ◌<◌, ◌++◌, ℕ, List, [], ◌∷◌, All, Contains, Option, flat_map, length, map, take, get_or, ap, arith, sym, subst}
use Rattle.std.specs.Prelude.{IsTrue}
use Rattle.std.specs.List.{cons_option, filter_map, range_with_len}
use Rattle.std.proofs.lemmas.Bool.{cond-true}
use Rattle.std.proofs.lemmas.List.{flat_map_more, map-append, take_more}
use Rattle.std.proofs.lemmas.List.Elements.{All-contains, filter_map-append}
use Rattle.std.proofs.lemmas.List.FromFn.{map-range_with_len_more}
use Rattle.bf_id.specs.Id.{BlockId, InShape, root_id, root_ids}
use Rattle.bf_case.specs.declared.case.Case.{Case}
use Rattle.bf_case.specs.Map.{ids_of}
use Rattle.bf_case.specs.Model.{model, regrids}
use Rattle.bf_case.specs.Regrid.{heirs_by, regrid, regridded_ids, target_in}
use Rattle.bf_case.proofs.MapLemmas.{ids_of-initial}
use Rattle.bf_case.proofs.ModelLemmas.{balanced-model_at, ids_of-regrid}
use Rattle.bf_case.proofs.NewCells.{id_of_found}
use Rattle.bf_block.specs.declared.point.Point.{Point}
use Rattle.bf_block.specs.Runs.{CanRun}
use Rattle.bf_block.specs.Block.{BlockValue, IsModels, after_regrid, map_at}
use Rattle.bf_ghost.specs.Telling.{AreAllLeaves}
use Rattle.bf_ghost.proofs.TellingLemmas.{found_leaf}

-- what the regrid of time 0 makes of a leaf
abbrev pub first_heirs : Case → BlockId → List BlockId
first_heirs c i = heirs_by (target_in c (model c 0) i) i

first_ids : (c : Case) → IsTrue (regrids c 0) → ids_of (map_at c (after_regrid 0)) ≡ flat_map (first_heirs c) (root_ids c.roots)
unfolding model regridded_ids
first_ids c does =
    ap ids_of (cond-true (regrids c 0) (regrid c (model c 0)) (model c 0) does)
    ∙ ids_of-regrid c (model c 0) ∙ ap (λ (ids : List BlockId). flat_map (first_heirs c) ids) (ids_of-initial c)

pub first_are_all : (c : Case) (blocks : List BlockValue) → CanRun c → IsTrue (regrids c 0) → All IsModels blocks
    → All (λ (b : BlockValue). b.case ≡ c) blocks → All (λ (b : BlockValue). b.point ≡ after_regrid 0) blocks
    → map (λ (b : BlockValue). b.id) blocks ≡ flat_map (first_heirs c) (root_ids c.roots) → AreAllLeaves c (after_regrid 0) blocks
first_are_all c blocks runs does models cases points ids = record {
  runs = runs;
  models = models;
  cases = cases;
  points = points;
  whole = λ i has. subst (λ (l : List BlockId). Contains l i) (first_ids c does ∙ sym ids) has;
}

pub all_inside : (c : Case) (p : Point) (blocks : List BlockValue) → AreAllLeaves c p blocks → All (λ (b : BlockValue). InShape c.roots b.id) blocks
all_inside c p blocks all = λ k d within.
    let b : BlockValue = get_or blocks k d in
    All-contains (InShape c.roots) (ids_of (map_at c p)) b.id (balanced-model_at c p.time p.regridded all.runs.valid).map.in_shape
    (id_of_found (map_at c p) b.id b.cells (found_leaf c p b (all.cases k d within) (all.points k d within) (all.models k d within).leaf))

-- what comes of the first roots, and of one more
pub heirs_more : (c : Case) (k : ℕ) (before its : List BlockValue) → map (λ (b : BlockValue). b.id) before ≡ flat_map (first_heirs c) (map root_id (range_with_len 0 k))
    → map (λ (b : BlockValue). b.id) its ≡ first_heirs c (root_id k)
    → map (λ (b : BlockValue). b.id) (before ++ its) ≡ flat_map (first_heirs c) (map root_id (range_with_len 0 (k + 1)))
heirs_more c k before its old new =
    let roots : List BlockId = map root_id (range_with_len 0 k) in
    map-append (λ (b : BlockValue). b.id) before its
    ∙ ap (λ (ids : List BlockId). ids ++ map (λ (b : BlockValue). b.id) its) old
    ∙ ap (λ (ids : List BlockId). flat_map (first_heirs c) roots ++ ids) new
    ∙ flat_map_more (first_heirs c) [] roots (root_id k)
    ∙ ap (λ (ids : List BlockId). flat_map (first_heirs c) ids) (sym (map-range_with_len_more root_id 0 k k (omega arith)))

-- what a function gives of the first elements of a list, and of one more
pub filter_map_more : {X Y : Type 0} (f : X → Option Y) (xs : List X) (i : ℕ) (x : X) (o : Option Y) → i < length xs → x ≡ get_or xs i x → f x ≡ o
    → filter_map f (take (i + 1) xs) ≡ filter_map f (take i xs) ++ cons_option o []
filter_map_more {Y = Y} f xs i x o within is gives =
    ap (filter_map f) (take_more xs i x within)
    ∙ filter_map-append f (take i xs) (get_or xs i x ∷ [])
    ∙ ap (λ (p : Option Y). filter_map f (take i xs) ++ cons_option p []) (ap f (sym is) ∙ gives)
