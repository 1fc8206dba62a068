-- What is said of decisions in every order of events.
use Rattle.std.specs.Prelude.{◌≡◌, ℕ, Bool, false, IsTrue, List, filter, Some, None, not}
use Rattle.std.specs.List.{range_with_len}
use Rattle.bf_buddy.specs.Members.{is_member}
use Rattle.bf_core.specs.declared.event.Event.{Event}
use Rattle.bf_core.specs.declared.outcome.Outcome.{Outcome}
use Rattle.bf_core.specs.declared.outcome.Outcome.TheVariants.{Lost}
use Rattle.bf_core.specs.Stages.{is_gone, is_short, has_finished_rounds}
use Rattle.bf_core.specs.States.{State, stage, first_lost}
use Rattle.bf_core.specs.Next.{is_ripe, may_decide, happened, next}
use Rattle.bf_core.specs.Journals.{Move, after, end_of}

-- an end that no later move changes, and after which no event decides anything
pub record IsFinal (state : State) (moves : List Move) (outcome : Outcome) : Type 0 where
  pub ends : end_of state moves ≡ Some outcome
  pub epoch : (after state moves).epoch ≡ state.epoch
  pub undecided : (event : Event) (filled : Bool) → next (after state moves) event filled ≡ happened (after state moves) event filled

-- an event after which every live member has arrived, where the part of this home, and of none before, is lost
pub record LosesAt (state : State) (event : Event) (filled : Bool) (time home buddy : ℕ) : Type 0 where
  pub may : IsTrue (may_decide event)
  pub ripe : IsTrue (is_ripe (happened state event filled))
  pub agreed : time ≡ state.epoch.time
  pub lost : first_lost (happened state event filled) ≡ Some (home, buddy)

-- the ranks that have not died before the present epoch
abbrev pub remaining : State → List ℕ
remaining state = filter (λ rank. not (is_gone (stage state rank))) (range_with_len 0 state.ranks)

-- no later decision than that some part is lost
pub data OnlyLoses (before after : State) : Type 0 where
  Undecided : after.outcome ≡ None → after.epoch ≡ before.epoch → OnlyLoses before after
  HasLost : (home buddy : ℕ) → after.outcome ≡ Some (Lost before.epoch.time home buddy) → OnlyLoses before after

-- an event after which every live member has arrived, and no part of the agreed snapshot is lost
pub record DecidesWhole (state : State) (event : Event) (filled : Bool) : Type 0 where
  pub may : IsTrue (may_decide event)
  pub ripe : IsTrue (is_ripe (happened state event filled))
  pub whole : first_lost (happened state event filled) ≡ None

-- some member has arrived for want of memory
abbrev pub SomebodyWants : State → Type 0
SomebodyWants state = (rank : ℕ) × IsTrue (is_short (stage state rank))

-- each of these members lives and has arrived with all rounds done
abbrev pub AllAreDone : (members : List ℕ) → State → Type 0
AllAreDone members state = (rank : ℕ) → IsTrue (is_member members rank) → IsTrue (has_finished_rounds (stage state rank))

-- one of them has died, or has arrived without
abbrev pub SomebodyIsUndone : (members : List ℕ) → State → Type 0
SomebodyIsUndone members state = (rank : ℕ) × (IsTrue (is_member members rank) × (has_finished_rounds (stage state rank) ≡ false))
