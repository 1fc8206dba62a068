-- The proxies into which blocks go, each with its rank.
use Rattle.std.specs.Prelude.{◌≡◌, ◌↔◌, ◌<◌, ℕ, List, map, flat_map, All, AllPairs, Contains, IsTrue, IsFalse}
use Rattle.bf_id.specs.Id.{BlockId, level_of, parent_of}
use Rattle.bf_id.specs.Walk.{IsBefore}
use Rattle.bf_case.specs.declared.target.Target.TheVariants.{Keep, Merge}
use Rattle.bf_case.specs.Model.{regrids}
use Rattle.bf_block.specs.Block.{BlockValue}
use Rattle.bf_migrate.specs.Giving.{Gift, gifts_of, target_of_block}

-- the proxies that get something of blocks
abbrev pub proxies_of : List BlockValue → List BlockId
proxies_of blocks = flat_map (λ b. map (λ (gift : Gift). gift.0) (gifts_of b)) blocks

abbrev pub ids_in : List (BlockId × ℕ) → List BlockId
ids_in targets = map (λ (target : BlockId × ℕ). target.0) targets

-- by rising id
abbrev pub AreRising : List (BlockId × ℕ) → Type 0
AreRising targets = AllPairs (λ (a b : BlockId × ℕ). IsBefore a.0 b.0) targets

-- each has its rank
abbrev pub AreRanked : (rank : BlockId → ℕ) → List (BlockId × ℕ) → Type 0
AreRanked rank targets = All (λ (target : BlockId × ℕ). target.1 ≡ rank target.0) targets

-- by rising id, exactly the proxies that get something of the blocks, with their ranks
pub record AreTargets (rank : BlockId → ℕ) (blocks : List BlockValue) (targets : List (BlockId × ℕ)) : Type 0 where
  pub rising : AreRising targets
  pub ranked : AreRanked rank targets
  pub exact : (q : BlockId) → Contains (ids_in targets) q ↔ Contains (proxies_of blocks) q

-- what targets tell of one block: whether it is kept, whether it merges, and the proxies into which it goes
pub record Tell (b : BlockValue) (targets : List (BlockId × ℕ)) : Type 0 where
  pub rising : AreRising targets
  pub regrids : IsTrue (regrids b.case b.point.time)
  pub fresh : IsFalse b.point.regridded
  pub kept : Contains (ids_in targets) b.id → target_of_block b ≡ Keep
  pub merges : 0 < level_of b.id → Contains (ids_in targets) (parent_of b.id) → target_of_block b ≡ Merge
  pub above : target_of_block b ≡ Merge → 0 < level_of b.id
  pub all : (gift : Gift) → Contains (gifts_of b) gift → Contains (ids_in targets) gift.0
