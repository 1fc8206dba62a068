-- The canonical text of a case: the one way of writing it that is its own.
use Rattle.std.specs.Prelude.{ℕ, List, [], ◌∷◌, ◌++◌, slice_index, flat_map, codes, decimal}
use Rattle.bf_case.specs.declared.case.Case.{Case}
use Rattle.bf_case.specs.declared.case.Fill.{Fill}

-- each number after a blank
abbrev pub spaced : List ℕ → List ℕ
spaced numbers = flat_map (λ n. 32 ∷ decimal n) numbers

-- a line: its first word, then its numbers, and the line feed
abbrev pub line : List ℕ → List ℕ → List ℕ
line word numbers = word ++ (spaced numbers ++ 10 ∷ [])

-- the lines that each case has, in their order
abbrev pub head_text : Case → List ℕ
head_text c =
    line (codes "forest") (1 ∷ []) ++ (line (codes "roots") (c.roots.nx ∷ c.roots.ny ∷ c.roots.nz ∷ [])
    ++ (line (codes "side") (c.side ∷ []) ++ (line (codes "levels") (c.levels ∷ [])
    ++ (line (codes "ranks") (c.ranks ∷ []) ++ (line (codes "steps") (c.steps ∷ [])
    ++ (line (codes "snapshot") (c.snapshot ∷ []) ++ (line (codes "regrid") (c.regrid ∷ [])
    ++ (line (codes "refine") (c.refine ∷ []) ++ (line (codes "coarsen") (c.coarsen ∷ [])
    ++ (line (codes "flow") (c.flow ∷ []) ++ (line (codes "turns") (c.turns ∷ [])
    ++ line (codes "shift") (c.shift ∷ []))))))))))))

-- x y z of the low corner, x y z of the high one, and the value
abbrev pub fill_text : Fill → List ℕ
fill_text f =
    line (codes "fill") (slice_index f.low 0 ∷ slice_index f.low 1 ∷ slice_index f.low 2
    ∷ slice_index f.high 0 ∷ slice_index f.high 1 ∷ slice_index f.high 2 ∷ f.value ∷ [])

-- the rank, and the number of events that it has when it dies
abbrev pub death_text : ℕ × ℕ → List ℕ
death_text death = line (codes "die") (death.0 ∷ death.1 ∷ [])

-- one line where there is an order
abbrev pub order_text : List ℕ → List ℕ
order_text [] = []
order_text (rank ∷ ranks) = line (codes "order") (rank ∷ ranks)

-- the lines of every case, the fills in their order, the deaths by rising rank, the order, and the end
abbrev pub case_text : Case → List ℕ
case_text c =
    head_text c ++ (flat_map fill_text c.fills ++ (flat_map death_text c.dies ++ (order_text c.order ++ line (codes "end") [])))
