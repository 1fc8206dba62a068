use Rattle.std.proofs.Common.{ℕ, ◌<◌, get_or}
use Rattle.bf_block.specs.Eighth.{EighthValue, AreMeans}
use Rattle.bf_block.proofs.merging.all_known.Given as goal

abbrev pub invariant-loop-part : goal.invariant-loop-part
invariant-loop-part l = (k : ℕ) (d : EighthValue) → k < l.part-index → AreMeans (get_or l.parts k d)
