use Rattle.std.proofs.Common.{◌≡◌, map, take}
use Rattle.bf_program.specs.Restores.{heir_of}
use Rattle.bf_beads.specs.Row.{with_owner}
use Rattle.bf_beads.proofs.bead.heirs.Given as goal

abbrev pub invariant-loop-link : goal.invariant-loop-link
invariant-loop-link l = l.all.items ≡ map (with_owner (λ owner. heir_of l.homes l.live l.shift owner)) (take l.link-index l.links)
