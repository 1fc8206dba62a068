-- Leaves that are written, whatever has them, and rows by their numbers.
use Rattle.std.proofs.Common.{◌≡◌, ℕ, ◌<◌, List, length, map, get_or, sym, ap, ◌∙◌, arith, zero-add}
use Rattle.std.proofs.lemmas.List.{length-map, get_or-map}
use Rattle.std.specs.List.{range_with_len}
use Rattle.std.proofs.lemmas.List.FromFn.{length-range_with_len, get_or-range_with_len}
use Rattle.bf_id.specs.Id.{BlockId}
use Rattle.bf_cells.specs.Grid.{Grid}
use Rattle.bf_case.specs.Map.{Leaf}
use Rattle.bf_case.specs.MapText.{leaf_text}

pub same_text : (i : BlockId) (g : Grid) (leaf : Leaf) → i ≡ leaf.0 → g ≡ leaf.1 → leaf_text (i, g) ≡ leaf_text leaf
same_text i g leaf e f = ap leaf_text (λ k. (e k, f k))

-- the leaf that an item of a list is
pub leaf_below : {X : Type 0} (leaf : X → Leaf) (xs : List X) (k : ℕ) → k < length xs → k < length (map leaf xs)
leaf_below leaf xs k below = omega (arith, below, length-map xs leaf)

pub leaf_read : {X : Type 0} (leaf : X → Leaf) (xs : List X) (k : ℕ) (x : X) → k < length xs → x ≡ get_or xs k x → leaf x ≡ get_or (map leaf xs) k (leaf x)
leaf_read leaf xs k x below is = ap leaf is ∙ sym (get_or-map leaf xs k x (leaf x) below)

-- the numbers from 0 on, by place
pub number_below : (n k : ℕ) → k < n → k < length (range_with_len 0 n)
number_below n k below = omega (arith, length-range_with_len 0 n)

pub number_at : (n k : ℕ) → k < n → k ≡ get_or (range_with_len 0 n) k 0
number_at n k below = sym (get_or-range_with_len 0 n k 0 below ∙ zero-add k)
