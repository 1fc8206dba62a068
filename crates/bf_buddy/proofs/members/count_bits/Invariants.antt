use Rattle.std.proofs.Common.{◌≡◌, ◌+◌, ◌≤◌, length}
use Rattle.bf_buddy.specs.Members.{ranks_in}
use Rattle.bf_buddy.proofs.BitLemmas.{ranks_from}
use Rattle.bf_buddy.proofs.members.count_bits.Given as goal

abbrev pub invariant-loop-rank : goal.invariant-loop-rank
invariant-loop-rank l = (l.count + length (ranks_from l.bits l.rank) ≡ length (ranks_in l.bits)) × (l.count ≤ l.rank)
