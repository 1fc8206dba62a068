use Rattle.std.proofs.Common.{◌≡◌, ◌+◌}
use Rattle.bf_case.specs.Filling.{with_box}
use Rattle.bf_case.proofs.filling.paint_layer.Given as goal

abbrev pub invariant-loop-y : goal.invariant-loop-y
invariant-loop-y l = record {
  painted : l.cells ≡ with_box l.fn.cells l.region.along_x.from l.region.along_x.end l.region.along_y.from l.y l.z (l.z + 1) l.value;
  side : l.cells.side ≡ l.fn.cells.side;
}
