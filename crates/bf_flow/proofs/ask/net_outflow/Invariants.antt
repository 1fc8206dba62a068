use Rattle.std.proofs.Common.{◌≡◌, ◌*◌, ◌^◌, take, pos, neg_ℤ, ◌≤ℤ◌}
use Rattle.bf_flow.specs.Flows.{net_outflow}
use Rattle.bf_flow.proofs.ask.net_outflow.Given as goal

abbrev pub invariant-loop-flow : goal.invariant-loop-flow
invariant-loop-flow l =
    (l.net ≡ net_outflow (take l.flow-index l.flows)) × (neg_ℤ (pos (l.flow-index * 2 ^ 32)) ≤ℤ l.net) × (l.net ≤ℤ pos (l.flow-index * 2 ^ 32))
