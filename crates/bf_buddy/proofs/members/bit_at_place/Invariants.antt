use Rattle.std.proofs.Common.{◌≡◌}
use Rattle.std.specs.Prelude.{slice_get}
use Rattle.bf_buddy.specs.Members.{ranks_in}
use Rattle.bf_buddy.proofs.BitLemmas.{ranks_from}
use Rattle.bf_buddy.proofs.members.bit_at_place.Given as goal

abbrev pub invariant-loop-rank : goal.invariant-loop-rank
invariant-loop-rank l = slice_get (ranks_from l.bits l.rank) l.left ≡ slice_get (ranks_in l.bits) l.place
