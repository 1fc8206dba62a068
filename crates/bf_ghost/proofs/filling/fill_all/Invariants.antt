use Rattle.std.proofs.Common.{◌≡◌}
use Rattle.bf_block.specs.Block.{map_at}
use Rattle.bf_ghost.specs.Filling.{HoldEdges}
use Rattle.bf_ghost.proofs.FillLemmas.{PartsHold}
use Rattle.bf_ghost.proofs.filling.fill_all.Given as goal

abbrev pub invariant-loop-strip : goal.invariant-loop-strip
invariant-loop-strip l = record {
  side : l.shell.side ≡ l.fn.shell.side;
  edges : HoldEdges l.block.case.roots (map_at l.block.case l.block.point) l.block.id l.block.cells l.fn.shell
      → HoldEdges l.block.case.roots (map_at l.block.case l.block.point) l.block.id l.block.cells l.shell;
  parts : PartsHold l.block.case.roots (map_at l.block.case l.block.point) l.block.id l.block.cells l.shell l.strips l.strip-index;
}
