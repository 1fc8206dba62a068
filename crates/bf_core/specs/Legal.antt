-- Which events are legal.
use Rattle.std.specs.Prelude.{ℕ, ◌≡◌, ◌<◌, ◌^◌, ◌-◌, Bool, true, false, ◌&&◌, not, ◌==◌, IsTrue, Option, Some, None}
use Rattle.bf_core.specs.declared.event.How.TheVariants.{Done, Broken, Memory}
use Rattle.bf_core.specs.declared.event.Event.{Event}
use Rattle.bf_core.specs.declared.event.Event.TheVariants.{Send, Recv, Arrive, Leave, Die}
use Rattle.bf_core.specs.declared.place.Place.{Place}
use Rattle.bf_core.specs.Stages.{is_leaving}
use Rattle.bf_core.specs.Places.{is_just, next_send, next_receive, is_past, PeersBelow}
use Rattle.bf_core.specs.States.{State, stage, queue, is_due, is_active, has_dead_member, is_short_of_memory}

-- the rank that acts in an event
abbrev pub actor : Event → ℕ
actor (Send rank to blocks sum) = rank
actor (Recv rank peer) = rank
actor (Arrive rank how) = rank
actor (Leave rank) = rank
actor (Die rank) = rank

-- whether a queue, if any, is one in which nothing waits for a rank
abbrev pub is_empty_from : State → (rank : ℕ) → Option ℕ → Bool
is_empty_from state rank (Some peer) = queue state peer rank == 0
is_empty_from state rank None = false

-- whether a rank waits for a message that has not been sent
abbrev pub waits : State → ℕ → Place → Bool
waits state rank place = is_empty_from state rank (next_receive place)

-- whether an event is legal, where its rank stands at a place
abbrev pub is_legal : State → Event → Place → Bool
is_legal state (Send rank to blocks sum) place = is_active state rank && is_just (next_send place) to
is_legal state (Recv rank peer) place = is_active state rank && is_just (next_receive place) peer && not (waits state rank place)
is_legal state (Arrive rank Done) place = is_active state rank && is_past place
is_legal state (Arrive rank Broken) place = is_active state rank && waits state rank place && has_dead_member state
is_legal state (Arrive rank Memory) place = is_active state rank
is_legal state (Leave rank) place = is_leaving (stage state rank) && not (is_due state rank)
is_legal state (Die rank) place = is_due state rank

-- an event that is legal where its rank stands at some place, whose peers are ranks
abbrev pub IsLegalSomewhere : State → Event → Type 0
IsLegalSomewhere state event = (place : Place) × (PeersBelow state.ranks place × IsTrue (is_legal state event place))

-- the queue to which an event adds, if any, has room for one message more
abbrev pub HasRoom : State → Event → Type 0
HasRoom state (Send rank to blocks sum) = queue state rank to < 2 ^ 64 - 1
HasRoom state (Recv rank peer) = Unit {0}
HasRoom state (Arrive rank how) = Unit {0}
HasRoom state (Leave rank) = Unit {0}
HasRoom state (Die rank) = Unit {0}

-- whether an event is an arrival for want of memory
abbrev pub is_memory : Event → Bool
is_memory (Arrive rank Memory) = true
is_memory (Arrive rank _) = false
is_memory (Send rank to blocks sum) = false
is_memory (Recv rank peer) = false
is_memory (Leave rank) = false
is_memory (Die rank) = false

-- an event that a rank at a place is offered: a legal one, but an arrival for want of memory only where the rank waits, every
-- member lives, and some member has arrived for want of memory
pub record IsOffered (state : State) (rank : ℕ) (place : Place) (event : Event) : Type 0 where
  pub its : actor event ≡ rank
  pub legal : IsTrue (is_legal state event place)
  pub memory : IsTrue (is_memory event) → IsTrue (waits state rank place && not (has_dead_member state) && is_short_of_memory state)
