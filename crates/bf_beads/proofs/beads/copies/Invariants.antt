use Rattle.std.proofs.Common.{◌≡◌, take}
use Rattle.bf_beads.proofs.beads.copies.Given as goal

abbrev pub invariant-loop-bead : goal.invariant-loop-bead
invariant-loop-bead l = l.all.items ≡ take l.bead-index l.beads
