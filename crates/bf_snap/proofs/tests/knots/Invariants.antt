use Rattle.std.proofs.Common.{IsTrue, All}
use Rattle.bf_buddy.specs.Members.{is_member}
use Rattle.bf_snap.specs.declared.tests.Knot.{Knot}
use Rattle.bf_snap.proofs.tests.knots.Given as goal

abbrev pub invariant-loop-number : goal.invariant-loop-number
invariant-loop-number g l = All (λ (knot : Knot). IsTrue (is_member l.homes knot.owner)) l.all.items
