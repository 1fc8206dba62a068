use Rattle.std.proofs.Common.{◌≡◌, map, filter}
use Rattle.std.specs.List.{range_with_len}
use Rattle.bf_beads.specs.Row.{is_beside, link_to, home_in}
use Rattle.bf_beads.proofs.opening.first_links.Given as goal

abbrev pub invariant-loop-other : goal.invariant-loop-other
invariant-loop-other l = l.links.items ≡ map (link_to (home_in l.ranks)) (filter (is_beside l.number) (range_with_len 0 l.other))
