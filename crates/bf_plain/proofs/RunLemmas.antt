-- The maps of a run, one after another.
use Rattle.std.proofs.Common.{◌≡◌, ℕ, ◌+◌, ◌*◌, ◌++◌, List, Vec, length, take, drop, sym, ap, subst, ◌∙◌}
use Rattle.std.specs.Vec.{with_items}
use Rattle.std.proofs.Math.Seq.{take-append_seam}
use Rattle.std.proofs.Math.Numerals.{add-one}
use Rattle.std.proofs.lemmas.List.{length-map}
use Rattle.bf_id.specs.Id.{BlockId}
use Rattle.bf_case.specs.declared.case.Case.{Case}
use Rattle.bf_case.specs.Case.{IsValid}
use Rattle.bf_case.specs.Map.{Leaf, ids_of, IsBalancedMap}
use Rattle.bf_case.specs.Model.{initial, model, regridded}
use Rattle.bf_case.specs.Regrid.{regrid}
use Rattle.bf_case.specs.Stencil.{stencil}
use Rattle.bf_case.proofs.MapLemmas.{ids_of-stencil}
use Rattle.bf_case.proofs.ModelLemmas.{balanced-initial, balanced-regrid, balanced-stencil}
use Rattle.bf_plain.specs.declared.run.Run.{Run}
use Rattle.bf_plain.specs.Atlas.{Charts}
use Rattle.bf_plain.specs.Runs.{IsReady}
use Rattle.bf_plain.specs.Step.{cube_of}

pub first_map : (c : Case) (leaves : List Leaf) → IsValid c → leaves ≡ initial c → IsBalancedMap c leaves
first_map c leaves valid first = subst (IsBalancedMap c) (sym first) (balanced-initial c valid)

pub first_is_model : (c : Case) (leaves : List Leaf) → leaves ≡ initial c → leaves ≡ model c 0
unfolding model
first_is_model c leaves first = first

pub regridded_map : (c : Case) (leaves new : List Leaf) → IsValid c → IsBalancedMap c leaves → new ≡ regrid c leaves → IsBalancedMap c new
regridded_map c leaves new valid forest is = subst (IsBalancedMap c) (sym is) (balanced-regrid c leaves valid.sized forest)

-- the map at the next time
pub next_is_model : (c : Case) (time : ℕ) (leaves after new : List Leaf) → leaves ≡ model c time → after ≡ regridded c time leaves
    → new ≡ stencil c.roots c.side after → new ≡ model c (time + 1)
unfolding model
next_is_model c time leaves after new now regrid' step =
    step ∙ ap (stencil c.roots c.side) (regrid' ∙ ap (regridded c time) now) ∙ sym (ap (model c) (add-one time))

-- what a vector holds once a slice of its whole length was written back
pub items_written : {X Z : Type 0} (v : Vec X Z) (written : List X) → length written ≡ v.len → (with_items v written).items ≡ written
items_written v written full =
    ap (λ n. take n (written ++ drop (length written) v.items)) (sym full) ∙ take-append_seam written (drop (length written) v.items)

-- what a step leaves as it was is enough for the next
pub ready_after_step : (c : Case) (old new : Run) → IsReady c old → new.leaves.items ≡ stencil c.roots c.side old.leaves.items → new.atlas ≡ old.atlas
    → new.shell.side ≡ old.shell.side → new.scratch.side ≡ old.scratch.side → length new.fresh.items ≡ length old.fresh.items → IsReady c new
ready_after_step c old new ready step atlas shell scratch fresh =
    let ids : ids_of new.leaves.items ≡ ids_of old.leaves.items = ap ids_of step ∙ ids_of-stencil c.roots c.side old.leaves.items in
    let first : Leaf → BlockId = λ leaf. leaf.0 in
    let count : length new.leaves.items ≡ length old.leaves.items =
    sym (length-map new.leaves.items first) ∙ ap length ids ∙ length-map old.leaves.items first in
    let charts : Charts c.roots (ids_of old.leaves.items) new.atlas = subst (Charts c.roots (ids_of old.leaves.items)) (sym atlas) ready.charted.charts in
    record {
      charted = record {
        valid = ready.charted.valid;
        map = subst (IsBalancedMap c) (sym step) (balanced-stencil c old.leaves.items ready.charted.map);
        charts = subst (λ is. Charts c.roots is new.atlas) (sym ids) charts;
      };
      shell = shell ∙ ready.shell;
      scratch = scratch ∙ ready.scratch;
      room = fresh ∙ ready.room ∙ ap (λ n. cube_of c.side * n) (sym count);
    }
