use Rattle.std.proofs.Common.{◌<◌, ◌*◌, ◌∙◌, ap, arith, sym}
use Rattle.bf_id.proofs.Boxes.{root_in_domain}
use Rattle.bf_case.specs.Around.{z_of}
use Rattle.bf_links.specs.Roots.{links_below}
use Rattle.bf_links.proofs.RootLemmas.{domain_begins, domain_ends, links_below-all, links_below-none}
use Rattle.bf_links.proofs.roots.links_of_root.Goals as goal

pub loop-z-init : goal.loop-z-init
loop-z-init c =
    c.new-items.ensures.items ∙ sym (links_below-none c.args.shape c.args.owners.now c.args.root) ∙ domain_begins c.args.shape c.args.owners.now c.args.root c.requires.domain
    ∙ ap (λ z. links_below c.args.shape c.args.owners.now c.args.root (c.args.shape.nx * (c.args.shape.ny * z))) (sym c.first_beside-z.ensures)

pub returns : goal.returns
returns c =
    let end = c.end_beside-z-end.ensures in
    let start = c.first_beside-z.ensures in
    let upto = c.loop-z.auto.z-end in
    let own : z_of c.args.shape c.args.root < c.args.shape.nz = (root_in_domain c.args.shape c.args.root c.requires.domain c.requires.inside).2 in
    c.loop-z.invariant ∙ domain_ends c.args.shape c.args.owners.now c.args.root c.loop-z.z c.requires.domain (omega arith) (omega arith)
    ∙ links_below-all c.args.shape c.args.owners.now c.args.root
