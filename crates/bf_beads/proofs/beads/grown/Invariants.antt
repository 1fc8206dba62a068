use Rattle.std.proofs.Common.{◌≡◌, map}
use Rattle.bf_beads.specs.Row.{grown}
use Rattle.bf_beads.proofs.beads.grown.Given as goal

abbrev pub invariant-loop-bead : goal.invariant-loop-bead
invariant-loop-bead l = l.all.items ≡ map (grown l.time) l.yielded
