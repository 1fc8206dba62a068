use Rattle.std.proofs.Common.{◌≡◌, ◌*◌}
use Rattle.bf_links.specs.Roots.{links_below}
use Rattle.bf_links.proofs.roots.links_of_root.Given as goal

abbrev pub invariant-loop-z : goal.invariant-loop-z
invariant-loop-z l = l.items.items ≡ links_below l.shape l.owners l.root (l.shape.nx * (l.shape.ny * l.z))
