use Rattle.std.proofs.Common.{◌≡◌}
use Rattle.bf_face.proofs.FaceLemmas.{HoldsOfFirst}
use Rattle.bf_case.proofs.RootsAround.{IsWallFrom}
use Rattle.bf_case.proofs.neighbours.surround.Given as goal

abbrev pub invariant-loop-face : goal.invariant-loop-face
invariant-loop-face g l = record {
  side : l.shell.side ≡ l.fn.shell.side;
  laid : HoldsOfFirst (IsWallFrom l.shape (g.L.RootCells.grid_of l.leaves) l.root l.shell) l.face-index;
}
