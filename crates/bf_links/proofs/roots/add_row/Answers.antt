use Rattle.std.proofs.Common.{◌<◌, ◌+◌, ◌*◌, ◌∙◌, ap, arith, sym}
use Rattle.bf_links.specs.Roots.{links_below}
use Rattle.bf_links.proofs.RootLemmas.{root_in_row, row_begins, row_ends}
use Rattle.bf_links.proofs.roots.add_row.Goals as goal

pub loop-x-init : goal.loop-x-init
loop-x-init c =
    c.requires.so_far ∙ row_begins c.args.shape c.args.owners.now c.args.root c.args.row c.requires.domain
    ∙ ap (λ x. links_below c.args.shape c.args.owners.now c.args.root (c.args.shape.nx * c.args.row + x)) (sym c.first_beside-x.ensures)

pub add_root-requires-clause-other_inside : goal.add_root-requires-clause-other_inside
add_root-requires-clause-other_inside c =
    let within : c.loop-x.x < c.args.shape.nx = omega (arith, c.end_beside-x-end.ensures) in
    (root_in_row c.args.shape c.args.row c.loop-x.x c.requires.domain c.requires.row_inside within).0

pub returns : goal.returns
returns c =
    let end = c.end_beside-x-end.ensures in
    let start = c.first_beside-x.ensures in
    let upto = c.loop-x.auto.x-end in
    c.loop-x.invariant ∙ row_ends c.args.shape c.args.owners.now c.args.root c.args.row c.loop-x.x (omega arith) (omega arith)
