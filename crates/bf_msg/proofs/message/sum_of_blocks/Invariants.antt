use Rattle.std.proofs.Common.{◌≡◌, ◌%◌, ◌^◌, take}
use Rattle.bf_msg.specs.Messages.{sum_of_blocks}
use Rattle.bf_msg.proofs.message.sum_of_blocks.Given as goal

abbrev pub invariant-loop-linked : goal.invariant-loop-linked
invariant-loop-linked l = l.sum ≡ sum_of_blocks (take l.linked-index l.blocks) % 2 ^ 64
