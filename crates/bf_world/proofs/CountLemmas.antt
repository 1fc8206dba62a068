-- What the length of a journal bounds.
use Rattle.std.proofs.Common.{ℕ, ◌<◌, ◌≤◌, ◌^◌, arith}
use Rattle.bf_core.specs.declared.event.Event.{Event}
use Rattle.bf_core.specs.declared.event.Event.TheVariants.{Send, Recv, Arrive, Leave, Die}
use Rattle.bf_core.specs.States.{State, queue}
use Rattle.bf_core.specs.Legal.{HasRoom}

pub has_room : (state : State) (event : Event) (n : ℕ) → ((from to : ℕ) → queue state from to ≤ n) → n < 2 ^ 63 → HasRoom state event
has_room state (Send rank to blocks sum) n queues small = omega (arith, queues rank to, small)
has_room state (Recv rank peer) n queues small = tt
has_room state (Arrive rank how) n queues small = tt
has_room state (Leave rank) n queues small = tt
has_room state (Die rank) n queues small = tt
