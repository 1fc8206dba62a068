-- A number from the ranks whose bits are 1.
use Rattle.std.proofs.Common.{◌≡◌, ℕ, suc, zero, ◌+◌, ◌*◌, ◌/◌, ◌%◌, ◌^◌, ◌<◌, cond, List, ◌∷◌, arith, ap, sym, ◌∙◌}
use Rattle.std.specs.Prelude.{◌==◌, filter}
use Rattle.std.specs.List.{range_with_len}
use Rattle.std.proofs.Math.Nat.{div-add-mod, div-div-eq-div-mul}
use Rattle.std.proofs.lemmas.Nat.{pow-add}
use Rattle.bf_buddy.specs.Members.{has_bit, ranks_in, bits_of}

-- a number halved k times, and once more
div_pow_more : (b k : ℕ) → b / 2 ^ (k + 1) ≡ b / 2 ^ k / 2
div_pow_more b k = rw (pow-add 2 k 1) (sym (div-div-eq-div-mul b (2 ^ k) 2))

-- a digit of 0 or 1
digit_part : (digit k : ℕ) (rest : List ℕ) → digit < 2 → bits_of (cond (digit == 1) (k ∷ rest) rest) ≡ digit * 2 ^ k + bits_of rest
digit_part zero k rest below = omega arith
digit_part (suc zero) k rest below = omega arith
digit_part (suc (suc digit)) k rest below = absurd (omega arith)

-- a digit and what follows it
joined : (rest high q first p : ℕ) → first ≡ q % 2 * p + rest → rest + high ≡ p * 2 * (q / 2) → first + high ≡ p * q
joined rest high q first p is_first is_rest =
    let halves : 2 * (q / 2) + q % 2 ≡ q = div-add-mod q 2 in
    let product : p * (2 * (q / 2) + q % 2) ≡ p * q = ap (λ n. p * n) halves in
    grind (arith, product)

-- what the first of some ranks adds
first_part : (b k : ℕ) (rest : List ℕ) → bits_of (cond (has_bit b k) (k ∷ rest) rest) ≡ b / 2 ^ k % 2 * 2 ^ k + bits_of rest
unfolding has_bit
first_part b k rest = digit_part (b / 2 ^ k % 2) k rest (omega arith)

-- the bits of the ranks among n numbers from k on are the part of the number from bit k up to bit k + n
parts : (b n k : ℕ) → bits_of (filter (has_bit b) (range_with_len k n)) + 2 ^ (k + n) * (b / 2 ^ (k + n)) ≡ 2 ^ k * (b / 2 ^ k)
parts b zero k = let same : k + 0 ≡ k = omega arith in rw same (omega arith)
parts b (suc n) k =
    let rest = filter (has_bit b) (range_with_len (k + 1) n) in
    let after : bits_of rest + 2 ^ (k + 1 + n) * (b / 2 ^ (k + 1 + n)) ≡ 2 ^ (k + 1) * (b / 2 ^ (k + 1)) = parts b n (k + 1) in
    let same : k + suc n ≡ k + 1 + n = omega arith in
    let first : bits_of (cond (has_bit b k) (k ∷ rest) rest) ≡ b / 2 ^ k % 2 * 2 ^ k + bits_of rest = first_part b k rest in
    rw same (joined (bits_of rest) (2 ^ (k + 1 + n) * (b / 2 ^ (k + 1 + n))) (b / 2 ^ k) _ (2 ^ k) first (after ∙ ap (λ p. p * (b / 2 ^ (k + 1))) (pow-add 2 k 1) ∙ ap (λ q. 2 ^ k * 2 * q) (div_pow_more b k)))

-- a number is the bits of its ranks
pub bits_of-ranks_in : (b : ℕ) → b < 2 ^ 32 → bits_of (ranks_in b) ≡ b
unfolding ranks_in
bits_of-ranks_in b valid =
    let whole : bits_of (filter (has_bit b) (range_with_len 0 32)) + 2 ^ 32 * (b / 2 ^ 32) ≡ 1 * (b / 1) = parts b 32 0 in
    let none : b / 2 ^ 32 ≡ 0 = omega arith in
    omega (arith, whole)
