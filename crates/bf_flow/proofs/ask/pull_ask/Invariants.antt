use Rattle.std.proofs.Common.{◌≡◌, map, take}
use Rattle.bf_flow.specs.Flows.{ask}
use Rattle.bf_flow.proofs.ask.pull_ask.Given as goal

abbrev pub invariant-loop-place : goal.invariant-loop-place
invariant-loop-place l = take l.place l.asks ≡ map (ask l.flows) (take l.place l.flows)
