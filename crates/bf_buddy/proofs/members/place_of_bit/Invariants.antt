use Rattle.std.proofs.Common.{◌≡◌, ◌≤◌}
use Rattle.bf_buddy.specs.Members.{ranks_in, place_in}
use Rattle.bf_buddy.proofs.BitLemmas.{ranks_from, place_from}
use Rattle.bf_buddy.proofs.members.place_of_bit.Given as goal

abbrev pub invariant-loop-member : goal.invariant-loop-member
invariant-loop-member l = (place_from l.rank l.place (ranks_from l.bits l.member) ≡ place_in (ranks_in l.bits) l.rank) × (l.place ≤ l.member)
