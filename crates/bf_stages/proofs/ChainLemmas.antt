-- The stages of an epoch by their places.
use Rattle.std.proofs.Common.{◌≡◌, ℕ, suc, zero, ◌+◌, ◌<◌, ◌≤◌, List, [], ◌∷◌, length, arith, refl, sym, subst}
use Rattle.std.specs.Prelude.{slice_index_or}
use Rattle.bf_stages.specs.Stages.{head_of, Chain}

pub head_is : {G : Type 0} (xs : List G) (last : G) → slice_index_or xs 0 last ≡ head_of xs last
head_is [] last = refl
head_is (x ∷ xs) last = refl

-- a stage of a chain and the one that follows it
pub chain_at : {G : Type 0} (R : G → G → Type 0) (xs : List G) (last : G) → Chain R xs last → (k : ℕ) → k < length xs → R (slice_index_or xs k last) (slice_index_or xs (k + 1) last)
chain_at R [] last chain k within = absurd (omega (arith, within))
chain_at {G = G} R (x ∷ xs) last chain zero within = subst (λ (g : G). R x g) (sym (head_is xs last)) chain.0
chain_at R (x ∷ xs) last chain (suc k) within = let next : suc k + 1 ≡ suc (k + 1) = omega arith in rw next (chain_at R xs last chain.1 k (omega (arith, within)))

-- behind all stages
pub beyond : {G : Type 0} (xs : List G) (last : G) (k : ℕ) → length xs ≤ k → slice_index_or xs k last ≡ last
beyond [] last k past = refl
beyond (x ∷ xs) last zero past = absurd (omega (arith, past))
beyond (x ∷ xs) last (suc k) past = beyond xs last k (omega (arith, past))
