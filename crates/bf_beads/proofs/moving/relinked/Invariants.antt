use Rattle.std.proofs.Common.{◌≡◌, map, take}
use Rattle.bf_beads.specs.Rounds.{relinked}
use Rattle.bf_beads.proofs.moving.relinked.Given as goal

abbrev pub invariant-loop-bead : goal.invariant-loop-bead
invariant-loop-bead l = l.all.items ≡ map (relinked l.members l.time) (take l.bead-index l.beads)
