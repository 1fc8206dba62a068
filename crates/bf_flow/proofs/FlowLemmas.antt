-- What neighbors move is opposite, and nothing in all.
use Rattle.std.proofs.Common.{◌≡◌, ℕ, suc, zero, ◌+◌, ◌/◌, max, ℤ, pos, negsuc, neg_ℤ, ◌-ℤ◌, int_div, refl, sym, arith, ◌+ℤ◌, List, [], ◌∷◌}
use Rattle.std.proofs.lemmas.Int.{ints}
use Rattle.std.proofs.Math.IntN.{neg_ℤ-neg_ℤ}
use Rattle.bf_flow.specs.Flows.{amount, moved_over}

quotient_turns : (a : ℤ) (d : ℕ) → int_div (neg_ℤ a) (pos d) ≡ neg_ℤ (int_div a (pos d))
quotient_turns (pos zero) d = omega (arith, ints)
quotient_turns (pos (suc n)) d = refl
quotient_turns (negsuc n) d = sym (neg_ℤ-neg_ℤ (pos (suc n / d)))

pub opposite_amounts : (load other_load : ℤ) (degree other_degree : ℕ)
    → amount load degree other_load other_degree ≡ neg_ℤ (amount other_load other_degree load degree)
unfolding amount
opposite_amounts load other_load degree other_degree =
    let turned : load -ℤ other_load ≡ neg_ℤ (other_load -ℤ load) = omega (arith, ints) in
    let same : max degree other_degree ≡ max other_degree degree = omega arith in
    rw (turned, same) (quotient_turns (other_load -ℤ load) (max other_degree degree + 1))

opposites_cancel : (here there rest : ℤ) → here ≡ neg_ℤ there → rest ≡ pos 0 → here +ℤ there +ℤ rest ≡ pos 0
opposites_cancel here there rest turned none = omega (arith, ints)

pub nothing_in_all : (loads : ℕ → ℤ) (degrees : ℕ → ℕ) (edges : List (ℕ × ℕ)) → moved_over loads degrees edges ≡ pos 0
nothing_in_all loads degrees [] = refl
nothing_in_all loads degrees (edge ∷ edges) =
    opposites_cancel (amount (loads edge.0) (degrees edge.0) (loads edge.1) (degrees edge.1)) (amount (loads edge.1) (degrees edge.1) (loads edge.0) (degrees edge.0))
    (moved_over loads degrees edges) (opposite_amounts (loads edge.0) (loads edge.1) (degrees edge.0) (degrees edge.1)) (nothing_in_all loads degrees edges)
