use Rattle.std.proofs.Common.{◌≡◌, map, take}
use Rattle.bf_beads.specs.Rounds.{relinked_one}
use Rattle.bf_beads.proofs.moving.relinked_all.Given as goal

abbrev pub invariant-loop-link : goal.invariant-loop-link
invariant-loop-link l = l.all.items ≡ map (relinked_one l.members l.time) (take l.link-index l.links)
