use Rattle.std.proofs.Common.{◌≡◌, ℕ, ◌<◌, true}
use Rattle.bf_id.specs.Id.{child_of}
use Rattle.bf_marks.specs.Flags.{is_flagged}
use Rattle.bf_marks.proofs.known.Known.children_may.Given as goal

abbrev pub invariant-loop-octant : goal.invariant-loop-octant
invariant-loop-octant l = (o : ℕ) → o < l.octant → is_flagged l.self.may (child_of l.parent o) ≡ true
