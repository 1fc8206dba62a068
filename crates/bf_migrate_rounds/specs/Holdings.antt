-- What a rank has to do with in the round in which blocks go to where their proxies are.
use Rattle.std.specs.Prelude.{ℕ, List, ◌++◌, map}
use Rattle.bf_id.specs.Id.{BlockId}
use Rattle.bf_block.specs.Block.{BlockValue}
use Rattle.bf_block.specs.declared.cargo.Cargo.{Cargo}
use Rattle.bf_msg.specs.declared.linked_block.LinkedBlock.{LinkedBlock}
use Rattle.bf_proxy.specs.declared.proxy.Proxy.{Proxy}

-- what stays the same in the round: the rank's number, the proxies into which its blocks go with the ranks that have these, by rising id, and the
-- proxies that it has itself
pub record Plan : Type 0 where
  pub rank : ℕ
  pub targets : List (BlockId × ℕ)
  pub proxies : List Proxy

-- what the rank holds: blocks by rising id, cargo on its way out with the ranks to which it goes, and cargo that arrived
pub record Holdings : Type 0 where
  pub blocks : List LinkedBlock
  pub cargo : List (ℕ × Cargo)
  pub arrived : List Cargo

pub record Migrating : Type 0 where
  pub plan : Plan
  pub holds : Holdings

abbrev pub blocks_in : List LinkedBlock → List BlockValue
blocks_in own = map (λ (o : LinkedBlock). o.block) own

-- the cargo without its ranks
abbrev pub loads : List (ℕ × Cargo) → List Cargo
loads cargo = map (λ (x : ℕ × Cargo). x.1) cargo

-- all cargo that the rank has on hand
abbrev pub on_hand : Holdings → List Cargo
on_hand holds = loads holds.cargo ++ holds.arrived
