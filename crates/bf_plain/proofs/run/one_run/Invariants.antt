use Rattle.std.proofs.Common.{◌≡◌}
use Rattle.bf_case.specs.Model.{model}
use Rattle.bf_plain.specs.Runs.{IsReady}
use Rattle.bf_plain.proofs.run.one_run.Given as goal

abbrev pub invariant-loop-now : goal.invariant-loop-now
invariant-loop-now l = record {
  leaves : l.run.leaves.items ≡ model l.case l.now;
  ready : IsReady l.case l.run;
}
