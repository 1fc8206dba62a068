-- What the calls of the round ask.
use Rattle.std.specs.Prelude.{◌≡◌, ◌≢◌, ℕ, ◌⊎◌, List, [], ◌∷◌, ◌++◌, map, IsPermutation}
use Rattle.std.specs.List.{zip}
use Rattle.bf_id.specs.Id.{BlockId}
use Rattle.bf_case.specs.declared.case.Case.{Case}
use Rattle.bf_case.specs.declared.target.Target.{Target}
use Rattle.bf_case.specs.declared.target.Target.TheVariants.{Merge}
use Rattle.bf_block.specs.Block.{BlockValue, IsModels}
use Rattle.bf_block.specs.Eighth.{AreMeans}
use Rattle.bf_block.specs.declared.cargo.Cargo.{Cargo}
use Rattle.bf_block.specs.declared.cargo.Cargo.TheVariants.{Whole, Piece}
use Rattle.bf_migrate.specs.Giving.{StandBefore}
use Rattle.bf_migrate.specs.Lots.{AreCargoRising, IsLotOf, Lot, Octet, Ready, cargo_in}
use Rattle.bf_migrate.specs.Targets.{AreTargets}
use Rattle.bf_proxy.specs.declared.proxy.Proxy.{Proxy}
use Rattle.bf_msg.specs.declared.linked_block.LinkedBlock.{LinkedBlock}
use Rattle.bf_migrate_rounds.specs.Holdings.{Plan, blocks_in}
use Rattle.bf_migrate_rounds.specs.Plays.{rank_in, with_links}

-- a plan by its parts
abbrev pub plan_of : (rank : ℕ) → List (BlockId × ℕ) → List Proxy → Plan
plan_of rank targets proxies = record { rank = rank; targets = targets; proxies = proxies }

-- blocks with the links of the proxies that stand at their places
abbrev pub linked_to : List Proxy → List BlockValue → List LinkedBlock
linked_to proxies blocks = map (λ (x : Proxy × BlockValue). with_links x.0 x.1) (zip proxies blocks)

-- the blocks stand before the regrid of one time, and these are the targets into which they go
pub record CanGive (targets : List (BlockId × ℕ)) (blocks : List LinkedBlock) : Type 0 where
  pub case : Case
  pub time : ℕ
  pub before : StandBefore case time (blocks_in blocks)
  pub told : AreTargets (rank_in targets) (blocks_in blocks) targets

-- or none is left
abbrev pub CanPack : List (BlockId × ℕ) → List LinkedBlock → Type 0
CanPack targets blocks = (blocks ≡ []) ⊎ CanGive targets blocks

-- the lot of a proxy of this origin: eighths where leaves merge into it, and else a whole block
abbrev pub IsLotFrom : Target → Lot → Type 0
IsLotFrom target (Ready b) = target ≢ Merge
IsLotFrom target (Octet parts) = target ≡ Merge

-- for each proxy in turn a lot of its origin
abbrev pub AreLotsFrom : Case → ℕ → List Proxy → List Cargo → Type 0
AreLotsFrom c time [] cargo = cargo ≡ []
AreLotsFrom c time (proxy ∷ proxies) cargo = (lot : Lot) × ((rest : List Cargo) × ((cargo ≡ cargo_in lot ++ rest) × ((IsLotOf c time proxy.id lot × IsLotFrom proxy.origin lot) × AreLotsFrom c time proxies rest)))

-- by rising id the cargo is for each proxy in turn a lot of its origin: exactly what its sources give
pub record MakesFrom (c : Case) (time : ℕ) (proxies : List Proxy) (cargo : List Cargo) : Type 0 where
  pub ordered : List Cargo
  pub same : IsPermutation cargo ordered
  pub rising : AreCargoRising ordered
  pub lots : AreLotsFrom c time proxies ordered

-- it is, for one case and one time
abbrev pub CanUnpack : List Proxy → List Cargo → Type 0
CanUnpack proxies cargo = (c : Case) × ((time : ℕ) × MakesFrom c time proxies cargo)

-- what is known of cargo: a block or an eighth of the model
abbrev pub IsKnown : Cargo → Type 0
IsKnown (Whole b) = IsModels b
IsKnown (Piece e) = AreMeans e
