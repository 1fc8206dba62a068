use Rattle.bf_cells.specs.Octant.{part_mean}
use Rattle.bf_cells.proofs.OctantLemmas.{AreWritten}
use Rattle.bf_cells.proofs.octants.mean_part.Given as goal

abbrev pub invariant-loop-row : goal.invariant-loop-row
invariant-loop-row l = AreWritten l.side l.x0 l.y0 l.z0 (part_mean l.side l.values) l.initial.into l.row l.into
