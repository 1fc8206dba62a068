-- Which leaves are refined: those that wish it, and those that 2:1 balance forces.
use Rattle.std.specs.Prelude.{◌≡◌, ℕ, zero, suc, ◌+◌, ◌==◌, ◌&&◌, ◌||◌, Bool, List, IsTrue, Contains, filter}
use Rattle.std.specs.List.{list_any}
use Rattle.bf_id.specs.declared.shape.Shape.{Shape}
use Rattle.bf_id.specs.Id.{BlockId, level_of, id_eq, Touch, touches}
use Rattle.bf_case.specs.Wishes.{Wishes}

-- a chain of leaves, with so many steps, from a leaf that wishes to be refined to this one: each next leaf touches the one before and is one
-- level lower
unfoldable pub Chain : Shape → List BlockId → Wishes → ℕ → BlockId → Type 0
Chain shape ids w zero i = Contains ids i × IsTrue (w.finer i)
Chain shape ids w (suc steps) i =
    Contains ids i × ((j : BlockId) × (Chain shape ids w steps j × Touch shape j i × (level_of j ≡ level_of i + 1)))

-- some chain leads to the leaf
abbrev pub IsRefined : Shape → List BlockId → Wishes → BlockId → Type 0
IsRefined shape ids w i = (steps : ℕ) × Chain shape ids w steps i

-- whether an id is in a list
abbrev pub is_among : List BlockId → BlockId → Bool
is_among ids i = list_any (id_eq i) ids

-- the leaves to which a chain of at most so many steps leads
unfoldable pub refined_within : Shape → List BlockId → Wishes → ℕ → List BlockId
refined_within shape ids w zero = filter w.finer ids
refined_within shape ids w (suc steps) =
    let before = refined_within shape ids w steps in
    filter (λ i. is_among before i || list_any (λ j. touches shape j i && level_of j == level_of i + 1) before) ids

-- the refined leaves: no chain goes down more than four levels
abbrev pub refined_ids : Shape → List BlockId → Wishes → List BlockId
refined_ids shape ids w = refined_within shape ids w 4
