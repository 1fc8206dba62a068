use Rattle.std.proofs.Common.{◌≡◌, ◌+◌, ◌*◌}
use Rattle.bf_links.specs.Roots.{links_below}
use Rattle.bf_links.proofs.roots.add_plane.Given as goal

abbrev pub invariant-loop-y : goal.invariant-loop-y
invariant-loop-y l = l.items.items ≡ links_below l.shape l.owners l.root (l.shape.nx * (l.shape.ny * l.plane + l.y))
