-- What the blocks of one point give in the regrid of its time.
use Rattle.std.specs.Prelude.{◌≡◌, ℕ, List, [], ◌∷◌, map, flat_map, All, IsTrue}
use Rattle.bf_id.specs.Id.{BlockId, parent_of}
use Rattle.bf_case.specs.declared.case.Case.{Case}
use Rattle.bf_case.specs.declared.target.Target.{Target}
use Rattle.bf_case.specs.declared.target.Target.TheVariants.{Keep, Refine, Merge}
use Rattle.bf_case.specs.Model.{model, regrids}
use Rattle.bf_case.specs.Regrid.{target_in}
use Rattle.bf_block.specs.declared.cargo.Cargo.{Cargo}
use Rattle.bf_block.specs.declared.cargo.Cargo.TheVariants.{Whole, Piece}
use Rattle.bf_block.specs.Block.{BlockValue, before_regrid, kept_block, split_blocks}
use Rattle.bf_block.specs.Eighth.{eighth_of}

-- cargo with the proxy into which it goes
abbrev pub Gift : Type 0
Gift = BlockId × Cargo

-- a whole block goes into the proxy of its own id
abbrev pub whole : BlockValue → Gift
whole b = (b.id, Whole b)

-- what a block gives where this becomes of it: itself, its eight children, or its eighth to the parent
abbrev pub gifts_by : Target → BlockValue → List Gift
gifts_by Keep b = whole (kept_block b) ∷ []
gifts_by Refine b = map whole (split_blocks b)
gifts_by Merge b = (parent_of b.id, Piece (eighth_of b)) ∷ []

-- what becomes of a block in the regrid of its time
abbrev pub target_of_block : BlockValue → Target
target_of_block b = target_in b.case (model b.case b.point.time) b.id

-- what a block gives in the regrid of its time
abbrev pub gifts_of : BlockValue → List Gift
gifts_of b = gifts_by (target_of_block b) b

-- a gift with the rank of its proxy in place of the proxy
abbrev pub sent_to : (rank : BlockId → ℕ) → Gift → ℕ × Cargo
sent_to rank gift = (rank gift.0, gift.1)

-- all that blocks give, in their order and by rising child, with the ranks of the proxies
abbrev pub all_sent : (rank : BlockId → ℕ) → List BlockValue → List (ℕ × Cargo)
all_sent rank blocks = flat_map (λ b. map (sent_to rank) (gifts_of b)) blocks

-- the blocks are of one case, and stand before the regrid of one time, which regrids
pub record StandBefore (c : Case) (time : ℕ) (blocks : List BlockValue) : Type 0 where
  pub regrids : IsTrue (regrids c time)
  pub cases : All (λ (b : BlockValue). b.case ≡ c) blocks
  pub points : All (λ (b : BlockValue). b.point ≡ before_regrid time) blocks
