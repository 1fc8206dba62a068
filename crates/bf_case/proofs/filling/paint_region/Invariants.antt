use Rattle.std.proofs.Common.{◌≡◌}
use Rattle.bf_cells.specs.Grid.{IsGrid}
use Rattle.bf_case.specs.Filling.{with_box}
use Rattle.bf_case.proofs.filling.paint_region.Given as goal

abbrev pub invariant-loop-z : goal.invariant-loop-z
invariant-loop-z l = record {
  painted : l.cells ≡ with_box l.fn.cells l.region.along_x.from l.region.along_x.end l.region.along_y.from l.region.along_y.end l.region.along_z.from l.z l.value;
  side : l.cells.side ≡ l.fn.cells.side;
  grid : IsGrid l.cells;
}
