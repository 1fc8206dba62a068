-- Parts of the lines that each case has.
use Rattle.std.specs.Prelude.{ℕ, List, [], ◌∷◌, ◌++◌, codes}
use Rattle.bf_case.specs.declared.case.Case.{Case}
use Rattle.bf_case.specs.CaseText.{line}

abbrev pub sizes_text : Case → List ℕ
sizes_text c =
    line (codes "forest") (1 ∷ []) ++ (line (codes "roots") (c.roots.nx ∷ c.roots.ny ∷ c.roots.nz ∷ [])
    ++ (line (codes "side") (c.side ∷ []) ++ line (codes "levels") (c.levels ∷ [])))

abbrev pub times_text : Case → List ℕ
times_text c =
    line (codes "ranks") (c.ranks ∷ []) ++ (line (codes "steps") (c.steps ∷ [])
    ++ (line (codes "snapshot") (c.snapshot ∷ []) ++ line (codes "regrid") (c.regrid ∷ [])))

abbrev pub limits_text : Case → List ℕ
limits_text c =
    line (codes "refine") (c.refine ∷ []) ++ (line (codes "coarsen") (c.coarsen ∷ []) ++ (line (codes "flow") (c.flow ∷ [])
    ++ (line (codes "turns") (c.turns ∷ []) ++ line (codes "shift") (c.shift ∷ []))))
