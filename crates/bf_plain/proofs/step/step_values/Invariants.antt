use Rattle.std.proofs.Common.{◌≡◌, ℕ, ◌<◌, get_or}
use Rattle.bf_cells.specs.Rows.{piece_at}
use Rattle.bf_case.specs.Map.{ids_of}
use Rattle.bf_plain.specs.Atlas.{id_at}
use Rattle.bf_plain.specs.Step.{cube_of, stepped_cells}
use Rattle.bf_plain.proofs.step.step_values.Given as goal

abbrev pub invariant-loop-own : goal.invariant-loop-own
invariant-loop-own l = record {
  side : l.shell.side ≡ l.fn.shell.side;
  scratch : l.scratch.side ≡ l.fn.scratch.side;
  held : (j k : ℕ) → j < cube_of l.survey.case.now.side → k < l.own
      → piece_at l.fresh (cube_of l.survey.case.now.side) k j
      ≡ get_or (stepped_cells l.survey.case.now.roots l.survey.case.now.side l.survey.leaves.now (id_at (ids_of l.survey.leaves.now) k)).values j 0;
}
