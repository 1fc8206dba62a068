-- What is known of places in every order of events, and who can move.
use Rattle.std.specs.Prelude.{◌≡◌, ℕ, ◌<◌, ◌≤◌, false, IsTrue, ◌⊎◌, List, Some, is_some}
use Rattle.bf_core.specs.declared.event.Event.{Event}
use Rattle.bf_core.specs.declared.place.Place.{Place}
use Rattle.bf_core.specs.declared.place.Place.TheVariants.{Rounds, Past}
use Rattle.bf_core.specs.Stages.{is_running, is_awaited}
use Rattle.bf_core.specs.Places.{next_send, next_receive, is_past}
use Rattle.bf_core.specs.States.{State, stage, queue, opening, has_dead_member, is_short_of_memory}
use Rattle.bf_core.specs.Legal.{IsOffered}
use Rattle.bf_core.specs.Journals.{Move, after, are_legal}

-- a state to which a journal leads from an opening
pub record IsReached (state : State) : Type 0 where
  pub ranks : ℕ
  pub filled : List ℕ
  pub deaths : List (ℕ × ℕ)
  pub shift : ℕ
  pub steps : ℕ
  pub interval : ℕ
  pub some_rank : 1 ≤ ranks
  pub moves : List Move
  pub legal : IsTrue (are_legal (opening ranks filled deaths shift steps interval) moves)
  pub reached : state ≡ after (opening ranks filled deaths shift steps interval) moves

-- whether a rank at the one place is behind a rank at the other: in an earlier round, or in the same with something to send
abbrev pub IsBehind : Place → Place → Type 0
IsBehind (Rounds round sent received peers) (Rounds other _ _ _) =
    (round < other) ⊎ ((round ≡ other) × IsTrue (is_some (next_send (Rounds round sent received peers))))
IsBehind (Rounds round sent received peers) Past = Unit {0}
IsBehind Past place = ⊥

-- places in order: a rank in its rounds has a next step, and the sender of a message that is waited for and not sent is behind
pub record AreInOrder (state : State) (places : ℕ → Place) : Type 0 where
  pub next : (rank : ℕ) → IsTrue (is_running (stage state rank))
      → IsTrue (is_past (places rank)) ⊎ (IsTrue (is_some (next_send (places rank))) ⊎ IsTrue (is_some (next_receive (places rank))))
  pub behind : (rank peer : ℕ) → IsTrue (is_running (stage state rank)) → next_receive (places rank) ≡ Some peer → queue state peer rank ≡ 0
      → has_dead_member state ≡ false → is_short_of_memory state ≡ false
      → IsTrue (is_awaited (stage state peer)) × IsBehind (places peer) (places rank)

-- some rank is offered an event
abbrev pub CanMove : State → (places : ℕ → Place) → Type 0
CanMove state places = (rank : ℕ) × ((event : Event) × IsOffered state rank (places rank) event)
