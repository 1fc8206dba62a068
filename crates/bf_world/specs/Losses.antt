-- What deaths come to: who has died in a journal, and which parts of the agreed snapshot that loses.
use Rattle.std.specs.Prelude.{◌≡◌, ℕ, ◌≤◌, Bool, false, ◌||◌, not, ◌==◌, IsTrue, List, [], ◌∷◌, ◌++◌, filter, Some}
use Rattle.std.specs.List.{range_with_len, list_any}
use Rattle.bf_buddy.specs.Members.{is_member}
use Rattle.bf_buddy.specs.Buddy.{buddy_of}
use Rattle.bf_program.specs.Meanings.{Meanings}
use Rattle.bf_core.specs.declared.event.Event.{Event}
use Rattle.bf_core.specs.declared.event.Event.TheVariants.{Send, Recv, Arrive, Leave, Die}
use Rattle.bf_core.specs.declared.outcome.Outcome.TheVariants.{Lost}
use Rattle.bf_core.specs.States.{State}
use Rattle.bf_world.specs.Runs.{Run, next_run, run_after}
use Rattle.bf_world.specs.Worlds.{brings_decision}

-- whether an event is the death of a rank
abbrev pub is_death_of : (rank : ℕ) → Event → Bool
is_death_of rank (Send sender to blocks sum) = false
is_death_of rank (Recv receiver peer) = false
is_death_of rank (Arrive member how) = false
is_death_of rank (Leave member) = false
is_death_of rank (Die dead) = dead == rank

-- whether a rank has died in a journal
abbrev pub has_died : List Event → (rank : ℕ) → Bool
has_died journal rank = list_any (is_death_of rank) journal

-- the ranks that have not died in a journal
unfoldable pub survivors : (ranks : ℕ) → List Event → List ℕ
survivors ranks journal = filter (λ rank. not (has_died journal rank)) (range_with_len 0 ranks)

-- a part of the agreed snapshot that has a block, where its home and the home's buddy have both died in a journal
pub record BothHoldersDied (agreed : State) (journal : List Event) (home : ℕ) : Type 0 where
  pub has_block : IsTrue (is_member agreed.stored home)
  pub home_died : IsTrue (has_died journal home)
  pub buddy_died : IsTrue (has_died journal (buddy_of agreed.epoch.homes home agreed.shift))

-- the first home of such a part in the order of ranks, with its buddy and the time of the snapshot
pub record IsFirstLost (agreed : State) (journal : List Event) (time home buddy : ℕ) : Type 0 where
  pub its_time : time ≡ agreed.epoch.time
  pub its_buddy : buddy ≡ buddy_of agreed.epoch.homes home agreed.shift
  pub lost : BothHoldersDied agreed journal home
  pub first : (other : ℕ) → BothHoldersDied agreed journal other → home ≤ other

-- a run that has ended for a lost part of the snapshot of a time
abbrev pub EndsLost : (time : ℕ) → State → Type 0
EndsLost time state = (home : ℕ) × ((buddy : ℕ) × (state.outcome ≡ Some (Lost time home buddy)))

module _ {S L M T R : Type 0} (m : Meanings S L M T R) (setup : S) where
  -- whether one of these events brings a decision
  abbrev pub decides_in : Run L T → List Event → Bool
  decides_in run [] = false
  decides_in run (event ∷ events) = brings_decision m setup run event || decides_in (next_run m setup run event) events

  -- the last decision of a journal: the event that brought it, what came before, and what came later
  pub record LastDecision (journal : List Event) : Type 0 where
    pub before : List Event
    pub event : Event
    pub later : List Event
    pub split : journal ≡ before ++ event ∷ later
    pub decides : IsTrue (brings_decision m setup (run_after m setup before) event)
    pub last : decides_in (run_after m setup (before ++ event ∷ [])) later ≡ false
