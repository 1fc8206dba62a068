-- How a run that ranks have made ends, by who died.
use Rattle.std.specs.Prelude.{◌≡◌, ◌↔◌, ℕ, IsTrue, List, ◌∷◌, ◌++◌, [], Some}
use Rattle.bf_buddy.specs.Members.{is_member}
use Rattle.bf_id.specs.Id.{BlockId}
use Rattle.bf_core.specs.declared.event.Event.{Event}
use Rattle.bf_core.specs.declared.outcome.Outcome.TheVariants.{Lost}
use Rattle.bf_world.specs.Losses.{IsFirstLost, LastDecision}
use Rattle.bf_world.specs.Worlds.{core_after}
use Rattle.bf_parts.specs.Leaves.{AreAmong}
use Rattle.bf_forest.specs.declared.setup.Setup.{Setup}
use Rattle.bf_forest.specs.Goods.{HasLeaf}
use Rattle.bf_forest.specs.Meanings.{forest}
use Rattle.bf_forest.specs.ModelBlocks.{blocks_at}
use Rattle.bf_forest.specs.Setup.{case_of}

-- a run has a last decision. Of the snapshot that was agreed until then each leaf has its home among the homes, and those of leaves are the ones
-- whose part has a block; and the run is lost exactly where both holders of some such part have died by that decision, the first in the order of
-- ranks being named. So the rank that is named is a home of that snapshot, and some leaf is its
pub record EndsByDeaths (setup : Setup) (journal : List Event) : Type 0 where
  pub last : LastDecision forest setup journal
  pub home : BlockId → ℕ
  pub housed : AreAmong (core_after forest setup last.before).epoch.homes (blocks_at (case_of setup) (core_after forest setup last.before).epoch.time) home
  pub stored : (rank : ℕ) → IsTrue (is_member (core_after forest setup last.before).stored rank)
      ↔ HasLeaf (case_of setup) (core_after forest setup last.before).epoch.time home rank
  pub lost : (time home buddy : ℕ) → ((core_after forest setup journal).outcome ≡ Some (Lost time home buddy))
      ↔ IsFirstLost (core_after forest setup last.before) (last.before ++ last.event ∷ []) time home buddy
  pub named : (time rank buddy : ℕ) → (core_after forest setup journal).outcome ≡ Some (Lost time rank buddy)
      → IsTrue (is_member (core_after forest setup last.before).epoch.homes rank) × HasLeaf (case_of setup) (core_after forest setup last.before).epoch.time home rank
