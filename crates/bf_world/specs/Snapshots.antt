-- What decisions leave of the agreed snapshot.
use Rattle.std.specs.Prelude.{◌≡◌, ℕ, Bool, true, false, not, IsTrue, List, map, None}
use Rattle.bf_buddy.specs.Members.{is_member}
use Rattle.bf_program.specs.Epochs.{target_of}
use Rattle.bf_program.specs.Meanings.{Meanings}
use Rattle.bf_program.specs.Restores.{heir_of, filled_members, restored_locals, IsGivenOnce}
use Rattle.bf_core.specs.declared.decision.Decision.{Decision}
use Rattle.bf_core.specs.declared.decision.Decision.TheVariants.{Lose, WantMemory, Commit, Restore}
use Rattle.bf_core.specs.declared.event.Event.{Event}
use Rattle.bf_core.specs.States.{State}
use Rattle.bf_core.specs.Legal.{actor}
use Rattle.bf_core.specs.Next.{happened, decision}
use Rattle.bf_world.specs.Losses.{has_died, survivors}
use Rattle.bf_world.specs.Runs.{Run, will_be_filled, last_locals}
use Rattle.bf_world.specs.Worlds.{brings_decision}

-- the agreed snapshot stays: its time, its homes, and which of their parts have a block
pub record IsSameSnapshot (before after : State) : Type 0 where
  pub time : after.epoch.time ≡ before.epoch.time
  pub homes : after.epoch.homes ≡ before.epoch.homes
  pub stored : after.stored ≡ before.stored

-- whether what is decided, if anything is, is a commit
abbrev pub is_commit : (decided : Bool) → Decision → Bool
is_commit decided Commit = decided
is_commit decided (Lose home buddy) = false
is_commit decided WantMemory = false
is_commit decided Restore = false

module _ {S L M T R : Type 0} (m : Meanings S L M T R) (setup : S) where
  -- whether an event brings a commit
  unfoldable pub brings_commit : Run L T → Event → Bool
  brings_commit run event = is_commit (brings_decision m setup run event) (decision (happened run.core event (will_be_filled m setup run (actor event))))

  -- a run stays in its epoch: the members' locals with which it began are the same, and so is what is agreed
  pub record StaysInEpoch (before after : Run L T) : Type 0 where
    pub outcome : after.core.outcome ≡ before.core.outcome
    pub epoch : after.core.epoch ≡ before.core.epoch
    pub stored : after.core.stored ≡ before.core.stored
    pub start : after.start ≡ before.start

  -- after an event that brings a restore: the run goes on from the snapshot that was agreed, its members are the ranks that live, each
  -- part that has a block is given to exactly one of them, its home where that lives and else the home's buddy, and they go on with
  -- the locals with which the epoch before began, restored; the next epoch is a repair, it ends at the time at which it begins
  pub record RestoresAll (before after : Run L T) (journal : List Event) : Type 0 where
    pub goes_on : after.core.outcome ≡ None
    pub agreed : IsSameSnapshot before.core after.core
    pub members : after.core.epoch.members ≡ survivors (m.ranks setup) journal
    pub given : (home : ℕ) → IsTrue (is_member before.core.stored home)
        → (once : IsGivenOnce m setup before.core.epoch (λ rank. not (has_died journal rank)) before.start home)
        × (once.heir ≡ heir_of before.core.epoch.homes (survivors (m.ranks setup) journal) (m.shift setup) home)
    pub start : after.start ≡ restored_locals m setup before.core.epoch (λ rank. not (has_died journal rank)) before.start
    pub restored : after.core.epoch.restored ≡ true
    pub target : after.core.epoch.target ≡ after.core.epoch.time

  -- after an event that brings a commit, where the run goes on: the new snapshot is of the time to which the epoch went, its homes are
  -- the members, a part has a block as its home's last local says, and the members go on with their last locals, kept; the next epoch
  -- is no repair, it goes a snapshot's interval on or to the end of the run
  pub record AgreesOnNew (before after : Run L T) : Type 0 where
    pub time : after.core.epoch.time ≡ before.core.epoch.target
    pub homes : after.core.epoch.homes ≡ before.core.epoch.members
    pub stored : after.core.stored ≡ filled_members m before.core.epoch.members (last_locals m setup before)
    pub members : after.core.epoch.members ≡ before.core.epoch.members
    pub start : after.start ≡ map m.keep (last_locals m setup before)
    pub restored : after.core.epoch.restored ≡ false
    pub target : after.core.epoch.target ≡ target_of (m.steps setup) (m.interval setup) before.core.epoch.target
