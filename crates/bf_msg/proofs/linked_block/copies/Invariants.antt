use Rattle.std.proofs.Common.{◌≡◌, take}
use Rattle.bf_msg.proofs.linked_block.copies.Given as goal

abbrev pub invariant-loop-linked : goal.invariant-loop-linked
invariant-loop-linked l = l.copied.items ≡ take l.linked-index l.blocks
