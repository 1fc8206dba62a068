use Rattle.std.proofs.Common.{◌≡◌, filter, not}
use Rattle.std.specs.Prelude.{◌==◌}
use Rattle.bf_beads.specs.Rounds.{goes_to}
use Rattle.bf_beads.proofs.moving.parted.Given as goal

abbrev pub invariant-loop-bead : goal.invariant-loop-bead
invariant-loop-bead l = record {
  staying : l.parting.staying.items ≡ filter (λ bead. not (goes_to l.members l.time bead.number l.rank == l.to)) l.yielded;
  going : l.parting.going.items ≡ filter (λ bead. goes_to l.members l.time bead.number l.rank == l.to) l.yielded;
}
