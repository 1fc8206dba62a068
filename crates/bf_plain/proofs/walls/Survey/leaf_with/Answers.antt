use Rattle.std.proofs.Common.{◌<◌, ℕ, sym, subst, arith, length, get_or, map}
use Rattle.std.proofs.lemmas.List.{get_or-map, length-map}
use Rattle.bf_id.specs.Cube.{Holds}
use Rattle.bf_id.specs.Id.{BlockId, box_of, root_id}
use Rattle.bf_case.specs.Map.{Leaf}
use Rattle.bf_plain.proofs.walls.Survey.leaf_with.Goals as goal

pub returns-clause-holds : goal.returns-clause-holds
returns-clause-holds c =
    let m = c.args.self in
    let named = c.requires.charted.charts.leaves c.args.unit c.requires.inside in
    let first : Leaf → BlockId = λ (l : Leaf). l.0 in
    let many = length-map m.leaves.now first in
    let below : c.leaf_at.result < length m.leaves.now = omega (arith, named.below, c.leaf_at.ensures, many) in
    subst (λ (i : BlockId). Holds (box_of m.case.now.roots i) c.args.unit) (get_or-map first m.leaves.now c.leaf_at.result c.index-self-leaf_at.result (root_id 0) below)
    (subst (λ (k : ℕ). Holds (box_of m.case.now.roots (get_or (map first m.leaves.now) k (root_id 0))) c.args.unit) (sym c.leaf_at.ensures) named.holds)
