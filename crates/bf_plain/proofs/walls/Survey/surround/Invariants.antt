use Rattle.std.proofs.Common.{◌≡◌}
use Rattle.bf_face.proofs.FaceLemmas.{HoldsOfFirst}
use Rattle.bf_case.specs.Beside.{HoldsBeside}
use Rattle.bf_plain.proofs.walls.Survey.surround.Given as goal

abbrev pub invariant-loop-face : goal.invariant-loop-face
invariant-loop-face l = record {
  side : l.shell.side ≡ l.fn.shell.side;
  held : HoldsOfFirst (HoldsBeside l.self.case.now.roots l.self.leaves.now l.site.id l.site.cells.now l.shell) l.face-index;
}
