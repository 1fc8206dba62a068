use Rattle.std.proofs.Common.{◌+◌, ◌*◌, ◌∙◌, ap, arith, sym}
use Rattle.bf_links.specs.Roots.{links_below}
use Rattle.bf_links.proofs.RootLemmas.{plane_begins, plane_ends}
use Rattle.bf_links.proofs.roots.add_plane.Goals as goal

pub loop-y-init : goal.loop-y-init
loop-y-init c =
    c.requires.so_far ∙ plane_begins c.args.shape c.args.owners.now c.args.root c.args.plane c.requires.domain (omega arith)
    ∙ ap (λ y. links_below c.args.shape c.args.owners.now c.args.root (c.args.shape.nx * (c.args.shape.ny * c.args.plane + y))) (sym c.first_beside-y.ensures)

pub returns : goal.returns
returns c =
    let end = c.end_beside-y-end.ensures in
    let start = c.first_beside-y.ensures in
    let upto = c.loop-y.auto.y-end in
    c.loop-y.invariant ∙ plane_ends c.args.shape c.args.owners.now c.args.root c.args.plane c.loop-y.y c.requires.domain (omega arith) (omega arith)
