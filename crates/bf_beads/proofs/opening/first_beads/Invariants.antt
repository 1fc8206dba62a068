use Rattle.std.proofs.Common.{◌≡◌, map, filter}
use Rattle.std.specs.Prelude.{◌==◌}
use Rattle.std.specs.List.{range_with_len}
use Rattle.bf_beads.specs.Row.{bead_at, home_in}
use Rattle.bf_beads.proofs.opening.first_beads.Given as goal

abbrev pub invariant-loop-number : goal.invariant-loop-number
invariant-loop-number l = l.beads.items ≡ map (bead_at l.count 0 (home_in l.ranks)) (filter (λ number. home_in l.ranks number == l.rank) (range_with_len 0 l.number))
