use Rattle.std.proofs.Common.{◌≡◌}
use Rattle.bf_buddy.specs.Members.{ranks_in}
use Rattle.bf_buddy.specs.Losses.{first_lost_home}
use Rattle.bf_buddy.proofs.LossLemmas.{lost_from}
use Rattle.bf_buddy.proofs.losses.first_lost.Given as goal

abbrev pub invariant-loop-home : goal.invariant-loop-home
invariant-loop-home l = (lost_from l.homes l.filled l.live l.shift l.bits l.home ≡ first_lost_home l.homes l.filled l.live l.shift) × (l.homes ≡ ranks_in l.bits)
