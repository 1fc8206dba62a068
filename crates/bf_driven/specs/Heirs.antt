-- To whom a restore gives the blocks of the agreed snapshot.
use Rattle.std.specs.Prelude.{◌≡◌, ◌↔◌, ℕ, List, [], ◌∷◌, ◌++◌, map, All, Contains}
use Rattle.std.specs.List.{flat_map}
use Rattle.bf_id.specs.Id.{BlockId}
use Rattle.bf_case.specs.declared.case.Case.{Case}
use Rattle.bf_case.specs.Map.{ids_of}
use Rattle.bf_case.specs.Model.{model}
use Rattle.bf_program.specs.Restores.{heir_of}
use Rattle.bf_core.specs.declared.event.Event.{Event}
use Rattle.bf_world.specs.Losses.{survivors}
use Rattle.bf_world.specs.Runs.{run_after}
use Rattle.bf_world.specs.Worlds.{core_after}
use Rattle.bf_parts.specs.Leaves.{AreAmong}
use Rattle.bf_msg.specs.declared.linked_block.LinkedBlock.{LinkedBlock}
use Rattle.bf_forest.specs.declared.local.ForestLocal.{ForestLocal}
use Rattle.bf_forest.specs.declared.setup.Setup.{Setup}
use Rattle.bf_forest.specs.Goods.{AreDealt, HasAgreed, IsPart}
use Rattle.bf_forest.specs.Leaves.{AreLeaves, bare_blocks}
use Rattle.bf_forest.specs.Meanings.{forest}
use Rattle.bf_forest.specs.ModelBlocks.{blocks_at}
use Rattle.bf_forest.specs.Setup.{case_of}

-- among all locals, that of a rank has the block of a leaf
pub record HasBlock (locals : List ForestLocal) (rank : ℕ) (leaf : BlockId) : Type 0 where
  pub local : ForestLocal
  pub among : Contains locals local
  pub its : local.rank ≡ rank
  pub has : Contains (map (λ (b : LinkedBlock). b.block.id) local.blocks) leaf

-- the leaves of a time's map are at these ranks: each leaf has its owner among them, which alone has its block; each rank has its part of the map, linked with
-- the leaves that touch it and their owners; and in all, each leaf is there once, with the model's cells
pub record AreAtOwners (c : Case) (time : ℕ) (ranks : List ℕ) (owner : BlockId → ℕ) (locals : List ForestLocal) : Type 0 where
  pub owned : AreAmong ranks (blocks_at c time) owner
  pub seats : map (λ (local : ForestLocal). local.rank) locals ≡ ranks
  pub parts : All (λ (local : ForestLocal). IsPart c time owner local.rank local.blocks) locals
  pub alone : (leaf : BlockId) → Contains (ids_of (model c time)) leaf → (rank : ℕ) → HasBlock locals rank leaf ↔ (rank ≡ owner leaf)
  pub once : AreLeaves (model c time) (flat_map (λ (local : ForestLocal). bare_blocks local.blocks) locals)

-- who goes on with a leaf, by its home in the snapshot that was agreed before an event: the home, where it lives, else the home's buddy
abbrev pub leaf_heir : Setup → (journal : List Event) → Event → (home : BlockId → ℕ) → BlockId → ℕ
leaf_heir setup journal event home leaf =
    heir_of (core_after forest setup journal).epoch.homes (survivors (case_of setup).ranks (journal ++ event ∷ [])) (case_of setup).shift (home leaf)

-- each leaf of the agreed map has a home, by which the members had their parts of it, and after the event the leaves are at their heirs among the ranks that
-- live; with these owners and the same homes the next epoch begins
pub record GivesToHeirs (setup : Setup) (journal : List Event) (event : Event) : Type 0 where
  pub home : BlockId → ℕ
  pub housed : AreAmong (core_after forest setup journal).epoch.homes (blocks_at (case_of setup) (core_after forest setup journal).epoch.time) home
  pub held : All (HasAgreed (case_of setup) (core_after forest setup journal).epoch home) (run_after forest setup journal).start
  pub given : AreAtOwners (case_of setup) (core_after forest setup journal).epoch.time (survivors (case_of setup).ranks (journal ++ event ∷ []))
      (leaf_heir setup journal event home) (run_after forest setup (journal ++ event ∷ [])).start
  pub dealt : AreDealt (case_of setup) (core_after forest setup (journal ++ event ∷ [])).epoch 0 (leaf_heir setup journal event home) home
      (run_after forest setup (journal ++ event ∷ [])).start
