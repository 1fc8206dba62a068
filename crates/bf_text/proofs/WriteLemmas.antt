-- The lines that each case has, put in three parts.
use Rattle.std.proofs.Common.{◌≡◌, ℕ, List, [], ◌∷◌, ◌++◌, Option, subst, append_assoc}
use Rattle.std.specs.Prelude.{codes}
use Rattle.bf_edge.specs.Sheet.{SheetValue, Prints}
use Rattle.bf_case.specs.declared.case.Case.{Case}
use Rattle.bf_case.specs.CaseText.{line, head_text}
use Rattle.bf_text.specs.HeadText.{sizes_text, times_text, limits_text}

-- thirteen texts in three parts
regroup : (a b c d e f g h i j k l m : List ℕ) → (a ++ (b ++ (c ++ d))) ++ ((e ++ (f ++ (g ++ h))) ++ (i ++ (j ++ (k ++ (l ++ m)))))
    ≡ a ++ (b ++ (c ++ (d ++ (e ++ (f ++ (g ++ (h ++ (i ++ (j ++ (k ++ (l ++ m)))))))))))
regroup a b c d e f g h i j k l m = simp append_assoc

-- the head by its parts
head_parts : (c : Case) → sizes_text c ++ (times_text c ++ limits_text c) ≡ head_text c
head_parts c =
    regroup (line (codes "forest") (1 ∷ [])) (line (codes "roots") (c.roots.nx ∷ c.roots.ny ∷ c.roots.nz ∷ [])) (line (codes "side") (c.side ∷ []))
    (line (codes "levels") (c.levels ∷ [])) (line (codes "ranks") (c.ranks ∷ [])) (line (codes "steps") (c.steps ∷ []))
    (line (codes "snapshot") (c.snapshot ∷ [])) (line (codes "regrid") (c.regrid ∷ [])) (line (codes "refine") (c.refine ∷ []))
    (line (codes "coarsen") (c.coarsen ∷ [])) (line (codes "flow") (c.flow ∷ [])) (line (codes "turns") (c.turns ∷ []))
    (line (codes "shift") (c.shift ∷ []))

pub prints_head : {S : Type 0} {written : S → Option (List ℕ)} {faults : S → ℕ} (c : Case) {old new : S} {before after : SheetValue}
    → Prints written faults old new before after (sizes_text c ++ (times_text c ++ limits_text c)) → Prints written faults old new before after (head_text c)
prints_head {written = written} {faults = faults} c {old = old} {new = new} {before = before} {after = after} =
    subst (Prints written faults old new before after) (head_parts c)
