use Rattle.std.proofs.Common.{◌≡◌, length}
use Rattle.bf_plain.proofs.MergingLemmas.{UnwillingMarks}
use Rattle.bf_plain.proofs.merging.unwilling_marks.Given as goal

abbrev pub invariant-loop-leaf : goal.invariant-loop-leaf
invariant-loop-leaf l = record { marks : UnwillingMarks l.coarser l.refined l.leaf l.marks.items; count : length l.marks.items ≡ l.leaf }
