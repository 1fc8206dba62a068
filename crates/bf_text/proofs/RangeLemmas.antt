-- Lists made along a range of numbers.
use Rattle.std.proofs.Common.{◌≡◌, ℕ, zero, suc, ◌+◌, List, [], ◌∷◌, ◌++◌, Option, None, get_or, refl, sym, ap, ◌∙◌, append_assoc, arith}
use Rattle.std.specs.List.{flat_map, range_with_len}
use Rattle.std.proofs.lemmas.List.{append-nil}
use Rattle.bf_text.specs.Entries.{listed}
use Rattle.bf_text.specs.Drafts.{deaths_in}

flat_more : {X : Type 0} (f : ℕ → List X) (a n : ℕ) → flat_map f (range_with_len a (suc n)) ≡ flat_map f (range_with_len a n) ++ f (a + n)
flat_more f a zero = append-nil (f a) ∙ ap f (let e : a ≡ a + 0 = omega arith in e)
flat_more f a (suc n) =
    ap (λ xs. f a ++ xs) (flat_more f (a + 1) n)
    ∙ sym (append_assoc (f a) (flat_map f (range_with_len (a + 1) n)) (f (a + 1 + n)))
    ∙ ap (λ k. (f a ++ flat_map f (range_with_len (a + 1) n)) ++ f k) (let e : a + 1 + n ≡ a + suc n = omega arith in e)

pub flat_range_more : {X : Type 0} (f : ℕ → List X) (n : ℕ) → flat_map f (range_with_len 0 (n + 1)) ≡ flat_map f (range_with_len 0 n) ++ f n
flat_range_more f n =
    ap (λ k. flat_map f (range_with_len 0 k)) (let e : n + 1 ≡ suc n = omega arith in e)
    ∙ flat_more f 0 n ∙ ap (λ k. flat_map f (range_with_len 0 n) ++ f k) (let e : 0 + n ≡ n = omega arith in e)

-- two functions that agree make one list
pub flat_same : {X : Type 0} (f g : ℕ → List X) (xs : List ℕ) → ((k : ℕ) → f k ≡ g k) → flat_map f xs ≡ flat_map g xs
flat_same f g [] same = refl
flat_same f g (x ∷ xs) same = ap (λ ys. ys ++ flat_map f xs) (same x) ∙ ap (λ ys. g x ++ ys) (flat_same f g xs same)

pub death_more : (deaths : List (Option ℕ)) (items next : List (ℕ × ℕ)) (n : ℕ) → items ≡ flat_map (λ rank. listed rank (get_or deaths rank None)) (range_with_len 0 n)
    → next ≡ items ++ listed n (get_or deaths n None) → next ≡ flat_map (λ rank. listed rank (get_or deaths rank None)) (range_with_len 0 (n + 1))
death_more deaths items next n so_far more =
    more ∙ ap (λ xs. xs ++ listed n (get_or deaths n None)) so_far ∙ sym (flat_range_more (λ rank. listed rank (get_or deaths rank None)) n)

pub deaths_done : (deaths : List (Option ℕ)) (items : List (ℕ × ℕ)) (n : ℕ) → n ≡ 16
    → items ≡ flat_map (λ rank. listed rank (get_or deaths rank None)) (range_with_len 0 n) → items ≡ deaths_in deaths
deaths_done deaths items n all is = is ∙ ap (λ k. flat_map (λ rank. listed rank (get_or deaths rank None)) (range_with_len 0 k)) all
