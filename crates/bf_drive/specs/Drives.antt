-- The journals that come of turns in an order.
use Rattle.std.specs.Prelude.{◌≡◌, ℕ, Bool, true, false, IsTrue, zero, suc, ◌<◌, List, [], ◌∷◌, ◌++◌, length, slice_index_or}
use Rattle.std.specs.List.{list_any, range_with_len}
use Rattle.bf_buddy.specs.Members.{is_member, without}
use Rattle.bf_program.specs.declared.epoch.Epoch.{Epoch}
use Rattle.bf_program.specs.Meanings.{Meanings}
use Rattle.bf_core.specs.declared.event.Event.{Event}
use Rattle.bf_core.specs.Legal.{is_memory, IsOffered}
use Rattle.bf_core.specs.Stages.{is_running}
use Rattle.bf_core.specs.States.{stage, is_due}
use Rattle.bf_world.specs.Worlds.{core_after, place_after}
use Rattle.bf_rank.specs.declared.stand.Stand.{Stand}
use Rattle.bf_rank.specs.declared.stand.Stand.TheVariants as stands
use Rattle.bf_rank.specs.Ranks.{RankView, IsAt, IsOfferedSome, short_arrival, event_of_failed}

-- no rank arrives for want of memory
abbrev pub NobodyWantsMemory : List Event → Type 0
NobodyWantsMemory journal = list_any is_memory journal ≡ false

-- how far turns have come: the journal, and the ranks that have failed, which found no memory after their last event
pub record Progress : Type 0 where
  pub journal : List Event
  pub failed : List ℕ

-- the beginning: no event, and no rank has failed
abbrev pub beginning : Progress
beginning = record { journal = []; failed = [] }

-- one event more, after which these have failed
abbrev pub with_event : Progress → Event → (failed : List ℕ) → Progress
with_event so_far event failed = record { journal = so_far.journal ++ event ∷ []; failed = failed }

-- whether a rank that stands so has failed
abbrev pub has_failed : Stand → Bool
has_failed stands.Failed = true
has_failed _ = false

-- these are the ranks that have failed
abbrev pub AreFailed : {L : Type 0} → (failed : List ℕ) (ranks : List (RankView L)) → Type 0
AreFailed {L = L} failed ranks =
    (rank : ℕ) (default : RankView L) → rank < length ranks → is_member failed rank ≡ has_failed (slice_index_or ranks rank default).stand

-- from the ranks that have failed before, a change of progress leads to those that have failed after
abbrev pub Leads : {L : Type 0} → (Change : (old new : Progress) → Type 0) (old new : List Event) (before after : List (RankView L)) → Type 0
Leads Change old new before after =
    (failed : List ℕ) → AreFailed failed before
    → (next : List ℕ) × (AreFailed next after × Change (record { journal = old; failed = failed }) (record { journal = new; failed = next }))

module _ {S L M T R : Type 0} (m : Meanings S L M T R) (good : S → Epoch → ℕ → List L → Type 0) (setup : S) where
  -- a turn of a rank: one that has failed dies where that is due, else it arrives for want of memory; another adds an event that it
  -- is offered, and may fail then where it is in its rounds; or it arrives for want of memory in place of such an event; or it adds
  -- nothing, where none is offered
  pub data Turned (rank : ℕ) (old new : Progress) : Type 0 where
    GaveUp : IsTrue (is_member old.failed rank)
        → new ≡ with_event old (event_of_failed (is_due (core_after m setup old.journal) rank) rank) (without old.failed rank) → Turned rank old new
    Moved : is_member old.failed rank ≡ false → (event : Event) → IsOffered (core_after m setup old.journal) rank (place_after m setup old.journal rank) event
        → new ≡ with_event old event old.failed → Turned rank old new
    Failed : is_member old.failed rank ≡ false → (event : Event) → IsOffered (core_after m setup old.journal) rank (place_after m setup old.journal rank) event
        → IsTrue (is_running (stage (core_after m setup new.journal) rank)) → new ≡ with_event old event (rank ∷ old.failed) → Turned rank old new
    Lacked : is_member old.failed rank ≡ false → IsOfferedSome m good setup old.journal rank → new ≡ with_event old (short_arrival rank) old.failed
        → Turned rank old new
    Waited : is_member old.failed rank ≡ false
        → ((event : Event) → IsOffered (core_after m setup old.journal) rank (place_after m setup old.journal rank) event → ⊥) → new ≡ old → Turned rank old new

  -- turns of ranks, one after another
  abbrev pub Turns : List ℕ → (old new : Progress) → Type 0
  Turns [] old new = new ≡ old
  Turns (rank ∷ ranks) old new = (next : Progress) × (Turned rank old next × Turns ranks next new)

  -- so many passes through all ranks in rising order
  abbrev pub Passes : ℕ → (old new : Progress) → Type 0
  Passes zero old new = new ≡ old
  Passes (suc count) old new = (next : Progress) × (Turns (range_with_len 0 (m.ranks setup)) old next × Passes count next new)

  -- turns in an order from the beginning, and then passes through all ranks
  abbrev pub IsDrivenTo : (order : List ℕ) (end : Progress) → Type 0
  IsDrivenTo order end = (next : Progress) × (Turns order beginning next × ((count : ℕ) × Passes count next end))

  -- a journal that comes of such turns
  abbrev pub IsDriven : (order : List ℕ) (journal : List Event) → Type 0
  IsDriven order journal = (failed : List ℕ) × IsDrivenTo order (record { journal = journal; failed = failed })

  -- ranks in rising order, each of which has made all its turns of a journal
  pub record AreAt (journal : List Event) (ranks : List (RankView L)) : Type 0 where
    pub every : length ranks ≡ m.ranks setup
    pub its : (rank : ℕ) (default : RankView L) → rank < length ranks
        → ((slice_index_or ranks rank default).rank ≡ rank) × IsAt m good setup journal (slice_index_or ranks rank default)
