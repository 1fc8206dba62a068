use Rattle.std.proofs.Common.{◌≡◌, ◌+◌, ◌*◌, ◌^◌, take, pos, neg_ℤ, ◌≤ℤ◌}
use Rattle.bf_flow.specs.Flows.{load_after, flows_after}
use Rattle.bf_flow.proofs.turn.flow_turn.Given as goal

abbrev pub invariant-loop-place : goal.invariant-loop-place
invariant-loop-place l =
    (l.flows ≡ flows_after l.load l.degree (take l.place l.peers) l.initial.flows)
    × (l.left ≡ load_after l.load l.degree (take l.place l.peers))
    × (neg_ℤ (pos (l.place * 2 ^ 28)) ≤ℤ l.left)
    × (l.left ≤ℤ pos ((l.place + 1) * 2 ^ 28))
