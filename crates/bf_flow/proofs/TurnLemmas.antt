-- Flows and loads after the first few peers of a turn.
use Rattle.std.proofs.Common.{◌≡◌, ℕ, suc, zero, ◌+◌, ◌<◌, ℤ, pos, ◌+ℤ◌, List, [], ◌∷◌, length, take, slice_index_or, slice_set, refl, ap, arith}
use Rattle.bf_flow.specs.declared.turn.Peer.{Peer}
use Rattle.bf_flow.specs.Flows.{amount_to, flows_after}

-- the flow to the next peer is still as it was
pub flow_kept : (load : ℤ) (degree : ℕ) (peers : List Peer) (flows : List ℤ) (place : ℕ) → length flows ≡ length peers
    → slice_index_or (flows_after load degree (take place peers) flows) place (pos 0) ≡ slice_index_or flows place (pos 0)
flow_kept load degree peers flows zero same = refl
flow_kept load degree [] flows (suc place) same = refl
flow_kept load degree (peer ∷ peers) [] (suc place) same = refl
flow_kept load degree (peer ∷ peers) (flow ∷ flows) (suc place) same = flow_kept load degree peers flows place (omega arith)

-- one peer more
pub flow_next : (load : ℤ) (degree : ℕ) (peers : List Peer) (flows : List ℤ) (place : ℕ) (other : Peer) → length flows ≡ length peers → place < length peers
    → slice_set (flows_after load degree (take place peers) flows) place (slice_index_or flows place (pos 0) +ℤ amount_to load degree (slice_index_or peers place other))
    ≡ flows_after load degree (take (suc place) peers) flows
flow_next load degree [] flows place other same within = absurd (omega arith)
flow_next load degree (peer ∷ peers) [] place other same within = absurd (omega arith)
flow_next load degree (peer ∷ peers) (flow ∷ flows) zero other same within = refl
flow_next load degree (peer ∷ peers) (flow ∷ flows) (suc place) other same within =
    ap (λ rest. (flow +ℤ amount_to load degree peer) ∷ rest) (flow_next load degree peers flows place other (omega arith) (omega arith))

pub flow_step : (load : ℤ) (degree : ℕ) (peers : List Peer) (before flows : List ℤ) (place : ℕ) (other : Peer) (moved flow : ℤ)
    → length before ≡ length peers → place < length peers → flows ≡ flows_after load degree (take place peers) before
    → moved ≡ amount_to load degree (slice_index_or peers place other) → flow ≡ slice_index_or flows place (pos 0) +ℤ moved
    → slice_set flows place flow ≡ flows_after load degree (take (place + 1) peers) before
flow_step load degree peers before flows place other moved flow same within so_far is_moved is_sum =
    let one_more : place + 1 ≡ suc place = omega arith in
    rw (one_more, is_sum, is_moved, so_far, flow_kept load degree peers before place same) (flow_next load degree peers before place other same within)
