use Rattle.std.proofs.Common.{◌≡◌, ◌+◌, ◌*◌}
use Rattle.bf_links.specs.Roots.{links_below}
use Rattle.bf_links.proofs.roots.add_row.Given as goal

abbrev pub invariant-loop-x : goal.invariant-loop-x
invariant-loop-x l = l.items.items ≡ links_below l.shape l.owners l.root (l.shape.nx * l.row + l.x)
