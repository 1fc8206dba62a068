use Rattle.std.proofs.Common.{◌≡◌, ◌-◌, ◌^◌, length, min}
use Rattle.bf_plain.proofs.RebuildSteps.{heirs_of_read}
use Rattle.bf_plain.proofs.rebuild.new_count.Given as goal

abbrev pub invariant-loop-id : goal.invariant-loop-id
invariant-loop-id l = l.count ≡ min (length (heirs_of_read l.yielded)) (2 ^ 64 - 1)
