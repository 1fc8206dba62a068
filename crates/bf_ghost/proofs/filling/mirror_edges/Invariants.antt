use Rattle.std.proofs.Common.{◌≡◌}
use Rattle.bf_block.specs.Block.{map_at}
use Rattle.bf_ghost.proofs.FillLemmas.{EdgesHold}
use Rattle.bf_ghost.proofs.filling.mirror_edges.Given as goal

abbrev pub invariant-loop-face : goal.invariant-loop-face
invariant-loop-face l = record {
  side : l.shell.side ≡ l.fn.shell.side;
  edges : EdgesHold l.block.case.roots (map_at l.block.case l.block.point) l.block.id l.block.cells l.shell l.face-index;
}
