-- Leaves with cells of 0, added one after another.
use Rattle.std.proofs.Common.{◌≡◌, ℕ, ◌+◌, ◌-◌, ◌≤◌, List, [], ◌∷◌, ◌++◌, map, sym, ap, ◌∙◌, arith, append_assoc}
use Rattle.std.specs.List.{range_with_len}
use Rattle.std.proofs.lemmas.List.{append-nil}
use Rattle.std.proofs.lemmas.List.FromFn.{map-range_with_len_more}
use Rattle.std.proofs.lemmas.Simd.{map-map}
use Rattle.bf_id.specs.Id.{BlockId, child_of}
use Rattle.bf_cells.specs.Grid.{Grid, filled_with}
use Rattle.bf_case.specs.Map.{Leaf}
use Rattle.bf_case.specs.Rows.{blank}

-- a child with cells of 0
abbrev pub blank_child : BlockId → ℕ → Leaf
blank_child parent octant = blank (child_of parent octant)

pub no_blanks : (parent : BlockId) (from : ℕ) (before : List Leaf) → before ≡ before ++ map (blank_child parent) (range_with_len from (from - from))
no_blanks parent from before =
    let none : from - from ≡ 0 = omega arith in
    sym (ap (λ n. before ++ map (blank_child parent) (range_with_len from n)) none ∙ append-nil before)

pub one_blank_more : (parent : BlockId) (from octant : ℕ) (before new : List Leaf) (i : BlockId) (g : Grid) → from ≤ octant
    → new ≡ before ++ map (blank_child parent) (range_with_len from (octant - from)) → i ≡ child_of parent octant → g ≡ filled_with 2 0
    → new ++ (i, g) ∷ [] ≡ before ++ map (blank_child parent) (range_with_len from (octant + 1 - from))
one_blank_more parent from octant before new i g ordered so_far id cells =
    let named : BlockId → Leaf = λ j. (j, g) in
    let with : Grid → Leaf = λ h. (child_of parent octant, h) in
    let same : ◌≡◌ {A = Leaf} (i, g) (blank_child parent octant) = ap named id ∙ ap with cells in
    let made : ℕ → List Leaf = λ n. map (blank_child parent) (range_with_len from n) in
    let one : octant + 1 - from ≡ octant - from + 1 = omega arith in
    ap (λ l. l ++ (i, g) ∷ []) so_far ∙ append_assoc before (made (octant - from)) ((i, g) ∷ [])
    ∙ ap (λ (l : Leaf). before ++ (made (octant - from) ++ l ∷ [])) same
    ∙ ap (λ l. before ++ l) (sym (ap made one ∙ map-range_with_len_more (blank_child parent) from (octant - from) octant (omega arith)))

pub all_blanks : (parent : BlockId) (from octant end : ℕ) (before new : List Leaf) → octant ≡ end
    → new ≡ before ++ map (blank_child parent) (range_with_len from (octant - from))
    → new ≡ before ++ map blank (map (child_of parent) (range_with_len from (end - from)))
all_blanks parent from octant end before new last so_far =
    so_far ∙ ap (λ n. before ++ map (blank_child parent) (range_with_len from (n - from))) last
    ∙ ap (λ l. before ++ l) (sym (map-map blank (child_of parent) (range_with_len from (end - from))))
