-- Flows of load among neighboring ranks, and what a rank hands over or asks for by them.
use Rattle.std.specs.Prelude.{ℕ, ◌+◌, ◌-◌, min, neg_ℤ, Bool, ◌||◌, ◌&&◌, int_lt, nat_lt, if◌then◌else◌, map, ◌/◌, ◌≤◌, ◌^◌, max, ℤ, pos, negsuc, ◌+ℤ◌, ◌-ℤ◌, ◌≤ℤ◌, int_div, unsigned_abs, fold, List, [], ◌∷◌}
use Rattle.std.specs.Ordering.{int_eq}
use Rattle.std.specs.List.{sum_by}
use Rattle.bf_flow.specs.declared.turn.Peer.{Peer}

-- loads are from nothing to 2 ^ 28
abbrev pub IsLoad : ℤ → Type 0
IsLoad load = (pos 0 ≤ℤ load) × (load ≤ℤ pos (2 ^ 28))

-- the size of a flow is at most 2 ^ 32
abbrev pub IsFlow : ℤ → Type 0
IsFlow flow = unsigned_abs flow ≤ 2 ^ 32

-- what a rank of a load and a degree moves in one turn to another of a load and a degree, rounded towards zero
unfoldable pub amount : ℤ → ℕ → ℤ → ℕ → ℤ
amount load degree other_load other_degree = int_div (load -ℤ other_load) (pos (max degree other_degree + 1))

-- what it moves to a peer
abbrev pub amount_to : ℤ → ℕ → Peer → ℤ
amount_to load degree peer = amount load degree peer.load peer.degree

-- the load less what moves to each of these peers
abbrev pub load_after : ℤ → ℕ → List Peer → ℤ
load_after load degree peers = fold (λ left peer. left -ℤ amount_to load degree peer) load peers

-- the flows to these peers after one turn, from the flows before it
abbrev pub flows_after : ℤ → ℕ → List Peer → List ℤ → List ℤ
flows_after load degree [] flows = flows
flows_after load degree (peer ∷ peers) [] = []
flows_after load degree (peer ∷ peers) (flow ∷ flows) = (flow +ℤ amount_to load degree peer) ∷ flows_after load degree peers flows

-- how many proxies a flow stands for, to the nearest: none where nothing flows out
unfoldable pub quota : ℤ → ℕ
quota (pos flow) = (flow + 512) / 1024
quota (negsuc _) = 0

-- how many proxies a neighbor's flow brings in, to the nearest
abbrev pub want : ℤ → ℕ
want flow = quota (neg_ℤ flow)

-- the sum of the flows of neighbors, each a rank and its flow
abbrev pub net_outflow : List (ℕ × ℤ) → ℤ
net_outflow flows = fold (λ sum flow. sum +ℤ flow.1) (pos 0) flows

-- whether the first is served before the second: by rising flow, ties by lower rank
unfoldable pub is_before : ℕ × ℤ → ℕ × ℤ → Bool
is_before first second = int_lt first.1 second.1 || int_eq first.1 second.1 && nat_lt first.0 second.0

-- what all that are served before a neighbor want
abbrev pub wanted_before : List (ℕ × ℤ) → ℕ × ℤ → ℕ
wanted_before flows this = sum_by (λ other. if is_before other this then want other.1 else 0) flows

-- what is asked of a neighbor: what its flow brings in, or what is left of the net inflow after all that are served before it
abbrev pub ask : List (ℕ × ℤ) → ℕ × ℤ → ℕ
ask flows this = min (want this.1) (want (net_outflow flows) - wanted_before flows this)

-- what is asked of each
abbrev pub asks_of : List (ℕ × ℤ) → List ℕ
asks_of flows = map (ask flows) flows

-- what the two ends of each edge of a list move in one turn, in all
abbrev pub moved_over : (ℕ → ℤ) → (ℕ → ℕ) → List (ℕ × ℕ) → ℤ
moved_over loads degrees [] = pos 0
moved_over loads degrees (edge ∷ edges) =
    amount (loads edge.0) (degrees edge.0) (loads edge.1) (degrees edge.1) +ℤ amount (loads edge.1) (degrees edge.1) (loads edge.0) (degrees edge.0)
    +ℤ moved_over loads degrees edges
