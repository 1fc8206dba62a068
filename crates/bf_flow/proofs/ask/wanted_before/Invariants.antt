use Rattle.std.proofs.Common.{◌≡◌, ◌*◌, ◌^◌, ◌≤◌, take}
use Rattle.bf_flow.specs.Flows.{wanted_before}
use Rattle.bf_flow.proofs.ask.wanted_before.Given as goal

abbrev pub invariant-loop-other : goal.invariant-loop-other
invariant-loop-other l = (l.wanted ≡ wanted_before (take l.other-index l.flows) l.this) × (l.wanted ≤ l.other-index * 2 ^ 22)
