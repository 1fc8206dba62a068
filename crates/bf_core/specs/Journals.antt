-- Journals as the state machine sees them: lists of moves, each legal in the state that those before it give. Whether a place is the
-- rank's own is not told here, since the state machine knows no peers.
use Rattle.std.specs.Prelude.{Bool, true, ◌&&◌, List, [], ◌∷◌, Option}
use Rattle.bf_core.specs.declared.event.Event.{Event}
use Rattle.bf_core.specs.declared.outcome.Outcome.{Outcome}
use Rattle.bf_core.specs.declared.place.Place.{Place}
use Rattle.bf_core.specs.States.{State}
use Rattle.bf_core.specs.Legal.{is_legal}
use Rattle.bf_core.specs.Next.{next}

-- an event, the place at which its rank stood, and whether that rank's part of the new snapshot has a block
pub record Move : Type 0 where
  pub event : Event
  pub place : Place
  pub filled : Bool

-- the state after some moves
abbrev pub after : State → List Move → State
after state [] = state
after state (move ∷ moves) = after (next state move.event move.filled) moves

-- whether each move is legal in its turn
abbrev pub are_legal : State → List Move → Bool
are_legal state [] = true
are_legal state (move ∷ moves) = is_legal state move.event move.place && are_legal (next state move.event move.filled) moves

-- the end of a journal: the first decision that ended the run, which no later move changes
abbrev pub end_of : State → List Move → Option Outcome
end_of state moves = (after state moves).outcome
