-- The greatest and the least value of a list.
use Rattle.std.proofs.Common.{◌≡◌, ℕ, ◌<◌, ◌≤◌, arith, ap, List, [], ◌∷◌, length, get_or, max, min}
use Rattle.std.specs.List.{fold}
use Rattle.bf_cells.specs.Grid.{least_of}

-- a running minimum only falls, a running maximum only rises
pub fold-min_le : (a : ℕ) (xs : List ℕ) → fold min a xs ≤ a
fold-min_le a [] = omega arith
fold-min_le a (x ∷ xs) = let rest : fold min (min a x) xs ≤ min a x = fold-min_le (min a x) xs in omega arith

pub fold-max_ge : (a : ℕ) (xs : List ℕ) → a ≤ fold max a xs
fold-max_ge a [] = omega arith
fold-max_ge a (x ∷ xs) = let rest : max a x ≤ fold max (max a x) xs = fold-max_ge (max a x) xs in omega arith

-- a minimum that begins with the first element
pub least_from_first : (xs : List ℕ) → 0 < length xs → fold min (get_or xs 0 0) xs ≡ least_of xs
least_from_first [] h = absurd (omega arith)
least_from_first (x ∷ xs) h = let same : min x x ≡ x = omega arith in ap (λ a. fold min a xs) same
