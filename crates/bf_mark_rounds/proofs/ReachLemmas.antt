-- Refined leaves of a rank by the chains that lead to them.
use Rattle.std.proofs.Common.{ℕ, zero, suc, ◌<◌, ◌≤◌, List, filter, Contains, IsTrue, ◌↔◌, arith}
use Rattle.bf_id.specs.declared.shape.Shape.{Shape}
use Rattle.bf_id.specs.Id.{BlockId}
use Rattle.bf_id.proofs.Tilings.{Contains-none}
use Rattle.bf_case.specs.Refinement.{Chain, refined_within}
use Rattle.bf_case.specs.Wishes.{Wishes}
use Rattle.bf_case.proofs.ChainLemmas.{chain_from_within, within_from_chain}
use Rattle.bf_case.proofs.TestLemmas.{Contains-filter, Contains-filter_cases}
use Rattle.bf_mark_rounds.specs.Neighbors.{is_other, is_own}
use Rattle.bf_mark_rounds.specs.Shares.{refined_before}

module _ (shape : Shape) (ids : List BlockId) (w : Wishes) (owner : BlockId → ℕ) where
  pub own_chains : (rounds rank : ℕ) (i : BlockId)
      → (Contains (filter (is_own owner rank) (refined_within shape ids w rounds)) i ↔ (IsTrue (is_own owner rank i) × (steps : ℕ) × (steps ≤ rounds) × Chain shape ids w steps i))
  own_chains rounds rank i = (
    λ has. let kept = Contains-filter_cases (is_own owner rank) (refined_within shape ids w rounds) i has in let chain = chain_from_within shape ids w rounds i kept.0 in (kept.1, chain.0, chain.1, chain.2),
    λ (own, steps, few, chain). Contains-filter (is_own owner rank) (refined_within shape ids w rounds) i (within_from_chain shape ids w rounds steps i few chain) own,
  )

  pub heard_chains : (rounds rank : ℕ) (i : BlockId)
      → (Contains (filter (is_other shape ids owner rank) (refined_before shape ids w rounds)) i ↔ (IsTrue (is_other shape ids owner rank i) × (steps : ℕ) × (steps < rounds) × Chain shape ids w steps i))
  heard_chains zero rank i = (λ has. absurd (Contains-none i has), λ (other, steps, few, chain). absurd (omega (arith, few)))
  heard_chains (suc before) rank i = (
    λ has.
        let kept = Contains-filter_cases (is_other shape ids owner rank) (refined_within shape ids w before) i has in
        let chain = chain_from_within shape ids w before i kept.0 in
        (kept.1, chain.0, omega (arith, chain.1), chain.2),
    λ (other, steps, few, chain). Contains-filter (is_other shape ids owner rank) (refined_within shape ids w before) i (within_from_chain shape ids w before steps i (omega (arith, few)) chain) other,
  )
