use Rattle.std.proofs.Common.{◌≡◌, ◌%◌, ◌^◌, take}
use Rattle.bf_msg.specs.Messages.{sum_of_strips}
use Rattle.bf_msg.proofs.message.sum_of_strips.Given as goal

abbrev pub invariant-loop-strip : goal.invariant-loop-strip
invariant-loop-strip l = l.sum ≡ sum_of_strips (take l.strip-index l.strips) % 2 ^ 64
