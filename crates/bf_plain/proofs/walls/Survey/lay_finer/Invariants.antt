use Rattle.std.proofs.Common.{◌≡◌}
use Rattle.bf_plain.specs.Survey.{KeepsOthers}
use Rattle.bf_plain.proofs.SiteLemmas.{QuartersHold}
use Rattle.bf_plain.proofs.walls.Survey.lay_finer.Given as goal

abbrev pub invariant-loop-quarter : goal.invariant-loop-quarter
invariant-loop-quarter l = record {
  side : l.shell.side ≡ l.self.case.now.side;
  held : QuartersHold l.self.case.now.roots l.self.leaves.now l.site.id l.site.cells.now l.shell l.face l.quarter;
  others : KeepsOthers l.fn.shell l.shell l.face;
}
