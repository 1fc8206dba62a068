use Rattle.std.proofs.Common.{sym, ap, subst, ◌∙◌, List, get_or, set}
use Rattle.bf_cells.specs.Grid.{Grid, with_cell}
use Rattle.bf_case.specs.Map.{Leaf, IsBalancedMap}
use Rattle.bf_case.specs.Rows.{two_roots}
use Rattle.bf_plain.proofs.SpotLemmas.{balanced-with_cell}
use Rattle.bf_plain.proofs.tests.with_spot.Goals as goal

pub returns-clause-balanced : goal.returns-clause-balanced
returns-clause-balanced c =
    let old = c.args.map.leaves in
    let k = c.args.leaf in
    let was = c.index_mut.result.now in
    let items = c.into_vec-leaves.ensures in
    let read = sym (c.index_mut.ensures.value ∙ ap (λ l. get_or l k was) items) in
    let same = ap (λ (leaf : Leaf). set old k (leaf.0, with_cell leaf.1 c.args.x c.args.y c.args.z c.args.value)) read
    ∙ ap (λ (g : Grid). set old k (was.0, g)) (sym c.put.ensures)
    ∙ ap (λ (l : List Leaf). set l k (was.0, c.put.new.self)) (sym items)
    ∙ sym c.of.ensures in
    subst (IsBalancedMap two_roots) same
    (balanced-with_cell two_roots old k was c.args.x c.args.y c.args.z c.args.value c.requires.balanced c.requires.leaf_in c.ranges.value.fits)
