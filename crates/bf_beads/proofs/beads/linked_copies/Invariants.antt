use Rattle.std.proofs.Common.{◌≡◌, filter, take}
use Rattle.bf_beads.specs.Rounds.{is_linked}
use Rattle.bf_beads.proofs.beads.linked_copies.Given as goal

abbrev pub invariant-loop-bead : goal.invariant-loop-bead
invariant-loop-bead l = l.all.items ≡ filter (is_linked l.other) (take l.bead-index l.beads)
