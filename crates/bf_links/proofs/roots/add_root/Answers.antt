use Rattle.std.proofs.Common.{◌≡◌, ◌∙◌, true, false, refl, sym}
use Rattle.bf_links.proofs.RootLemmas.{root_left_out, root_touches}
use Rattle.bf_links.proofs.roots.add_root.Goals as goal

pub returns-in_ok-push : goal.returns-in_ok-push
returns-in_ok-push c =
    root_touches c.args.shape c.args.owners.now c.args.root c.args.other _ c.root_of.result c.root_of-id.result c.args.items.now.items c.push.new.self.items
    c.root_of.ensures c.root_of-id.ensures refl (c.touches.ensures.0 c.if-touches.true) c.in_ok-push.ensures.ok c.requires.so_far

pub returns-else-touches : goal.returns-else-touches
returns-else-touches c =
    root_left_out c.args.shape c.args.owners.now c.args.root c.args.other c.root_of.result c.root_of-id.result c.args.items.now.items c.root_of.ensures c.root_of-id.ensures
    (λ touch. let e : false ≡ true = sym c.if-touches.false ∙ c.touches.ensures.1 touch in cc) c.requires.so_far
