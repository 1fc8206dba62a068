-- What ranks have of the agreed snapshot.
use Rattle.std.specs.Prelude.{◌≡◌, ◌≢◌, ℕ, Bool, false, ◌&&◌, ◌||◌, not, IsTrue, List, [], ◌∷◌, ◌++◌, Some, None, if◌then◌else◌}
use Rattle.bf_id.specs.Id.{BlockId}
use Rattle.bf_case.specs.declared.case.Case.{Case}
use Rattle.bf_core.specs.declared.event.Event.{Event}
use Rattle.bf_core.specs.Stages.{goes_on, is_leaving, is_short}
use Rattle.bf_core.specs.States.{State, stage}
use Rattle.bf_world.specs.Runs.{Run, next_run, run_after}
use Rattle.bf_world.specs.Snapshots.{brings_commit}
use Rattle.bf_world.specs.Worlds.{core_after}
use Rattle.bf_rank.specs.Ranks.{RankView, IsAt, last_decided}
use Rattle.bf_rank.specs.declared.stand.Stand.TheVariants.{Failed}
use Rattle.bf_parts.specs.declared.side.Side.{Side}
use Rattle.bf_parts.specs.Leaves.{AreAmong}
use Rattle.bf_snap.specs.Buffers.{TwoSides}
use Rattle.bf_msg.specs.declared.linked_block.LinkedBlock.{LinkedBlock}
use Rattle.bf_forest.specs.declared.local.ForestLocal.{ForestLocal}
use Rattle.bf_forest.specs.declared.setup.Setup.{Setup}
use Rattle.bf_forest.specs.Setup.{case_of}
use Rattle.bf_forest.specs.Goods.{HasParts, IsGood}
use Rattle.bf_forest.specs.Meanings.{forest}
use Rattle.bf_forest.specs.ModelBlocks.{blocks_at}

-- a rank has on such a side its parts of the snapshot of a time with these homes
pub record HoldsParts (c : Case) (time : ℕ) (homes : List ℕ) (home : BlockId → ℕ) (side : TwoSides LinkedBlock → Side LinkedBlock) (view : RankView ForestLocal) : Type 0 where
  pub local : ForestLocal
  pub its : view.local ≡ Some local
  pub parts : HasParts c time homes home view.rank (side local.buffers)

-- each leaf of a time's map has its home among these homes, and each of such ranks has its parts by that, on the side that is told of it
pub record AllHold (c : Case) (time : ℕ) (homes : List ℕ) (side : (rank : ℕ) → TwoSides LinkedBlock → Side LinkedBlock) (Holds : RankView ForestLocal → Type 0) : Type 0 where
  pub home : BlockId → ℕ
  pub among : AreAmong homes (blocks_at c time) home
  pub parts : (view : RankView ForestLocal) → Holds view → HoldsParts c time homes home (side view.rank) view

-- the side on which a rank has the agreed snapshot: the active one, but the spare one where a commit agreed on it and the rank hasn't left yet
abbrev pub agreed_side : State → (rank : ℕ) → TwoSides LinkedBlock → Side LinkedBlock
agreed_side core rank buffers = if is_leaving (stage core rank) && not core.epoch.restored then buffers.spare else buffers.active

-- whether one of these events brings a commit
abbrev pub commits_in : Setup → Run ForestLocal (List LinkedBlock) → List Event → Bool
commits_in setup run [] = false
commits_in setup run (event ∷ events) = brings_commit forest setup run event || commits_in setup (next_run forest setup run event) events

module _ (setup : Setup) (journal : List Event) where
  -- a rank that goes on, has not failed and has not arrived for want of memory
  pub record IsHolder (view : RankView ForestLocal) : Type 0 where
    pub at : IsAt forest IsGood setup journal view
    pub goes : IsTrue (goes_on (stage (core_after forest setup journal) view.rank))
    pub lasts : view.stand ≢ Failed
    pub enough : is_short (stage (core_after forest setup journal) view.rank) ≡ false

  -- a rank that must leave
  pub record MustLeave (view : RankView ForestLocal) : Type 0 where
    pub at : IsAt forest IsGood setup journal view
    pub leaves : IsTrue (is_leaving (stage (core_after forest setup journal) view.rank))

  -- one that had not arrived for want of memory
  pub record HadMemory (view : RankView ForestLocal) : Type 0 where
    pub must : MustLeave view
    pub enough : is_short (stage (last_decided forest setup journal).core view.rank) ≡ false

-- each leaf of the agreed map has its home, and each rank that goes on has its parts by that, as one side that stays the same
-- whatever comes later, until an event brings a commit or the run ends
pub record AllHoldUntilCommit (setup : Setup) (journal : List Event) : Type 0 where
  pub home : BlockId → ℕ
  pub among : AreAmong (core_after forest setup journal).epoch.homes (blocks_at (case_of setup) (core_after forest setup journal).epoch.time) home
  pub side_of : (rank : ℕ) → Side LinkedBlock
  pub parts : (later : List Event) → commits_in setup (run_after forest setup journal) later ≡ false
      → (core_after forest setup (journal ++ later)).outcome ≡ None → (view : RankView ForestLocal) → IsHolder setup (journal ++ later) view
      → (has : HoldsParts (case_of setup) (core_after forest setup journal).epoch.time (core_after forest setup journal).epoch.homes home
      (agreed_side (core_after forest setup (journal ++ later)) view.rank) view)
      × (agreed_side (core_after forest setup (journal ++ later)) view.rank has.local.buffers ≡ side_of view.rank)
