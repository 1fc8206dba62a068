use Rattle.std.proofs.Common.{rules, arith, ◌≡◌, ◌≤◌, ◌+◌, ◌-◌, ◌*◌, ◌∙◌, ℕ, ap, length, get_or}
use Rattle.bf_cells.specs.Grid.{Grid}
use Rattle.bf_cells.proofs.PlaceLemmas.{row_fits}
use Rattle.bf_cells.proofs.PlaneLemmas.{pieces_more}
use Rattle.bf_case.specs.Map.{ids_of}
use Rattle.bf_plain.specs.Atlas.{id_at}
use Rattle.bf_plain.specs.Step.{cube_of, stepped_cells}
use Rattle.bf_plain.proofs.step.step_values.Goals as goal

pub step_leaf-requires-clause-side : goal.step_leaf-requires-clause-side
step_leaf-requires-clause-side c = c.loop-own.invariant.side ∙ c.requires.side

pub step_leaf-requires-clause-into_side : goal.step_leaf-requires-clause-into_side
step_leaf-requires-clause-into_side c = c.loop-own.invariant.scratch ∙ c.requires.scratch_side

pub overflow_add-start : goal.overflow_add-start
overflow_add-start c =
    let size = cube_of c.args.survey.case.now.side in
    let fits : size * c.loop-own.own + size ≤ size * length c.args.survey.leaves.now = row_fits size (length c.args.survey.leaves.now) c.loop-own.own (omega arith) in
    let room : size * c.loop-own.own + size ≤ length c.loop-own.fresh = omega (arith, fits) in
    search rules

pub slice_bounds-copy_from_slice-end : goal.slice_bounds-copy_from_slice-end
slice_bounds-copy_from_slice-end c =
    let size = cube_of c.args.survey.case.now.side in
    let fits : size * c.loop-own.own + size ≤ size * length c.args.survey.leaves.now = row_fits size (length c.args.survey.leaves.now) c.loop-own.own (omega arith) in
    let room : size * c.loop-own.own + size ≤ length c.loop-own.fresh = omega (arith, fits) in
    search rules

pub loop-own-preserved : goal.loop-own-preserved
loop-own-preserved c =
    let m = c.args.survey in
    let size = cube_of m.case.now.side in
    let own = c.loop-own.own in
    let fits : size * own + size ≤ size * length m.leaves.now = row_fits size (length m.leaves.now) own (omega arith) in
    let room : size * own + size ≤ length c.loop-own.fresh = omega (arith, fits) in
    let same : size * own + size - size * own ≡ size = omega arith in
    let value : ℕ → ℕ → ℕ = λ j k. get_or (stepped_cells m.case.now.roots m.case.now.side m.leaves.now (id_at (ids_of m.leaves.now) k)).values j 0 in
    let part = c.copy_from_slice.new.self in
    let copied = c.copy_from_slice.ensures.after ∙ c.values.ensures.values ∙ ap (λ (g : Grid). g.values) c.step_leaf.ensures.cells in
    let len : length part ≡ size = omega arith in
    record {
      side = c.step_leaf.ensures.side ∙ c.loop-own.invariant.side;
      scratch = c.step_leaf.ensures.into_side ∙ c.loop-own.invariant.scratch;
      held = pieces_more value c.loop-own.fresh part size own _ same room len (λ j hj. ap (λ l. get_or l j 0) copied) c.loop-own.invariant.held;
    }
