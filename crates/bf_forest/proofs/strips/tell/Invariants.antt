use Rattle.std.proofs.Common.{◌≡◌, ◌++◌, take}
use Rattle.bf_block.specs.Block.{leaf_of}
use Rattle.bf_forest.proofs.StripSteps.{told_by}
use Rattle.bf_forest.proofs.strips.tell.Given as goal

abbrev pub invariant-loop-link : goal.invariant-loop-link
invariant-loop-link l = l.strips.items ≡ l.fn.strips.items ++ told_by l.linked.block.case.roots l.to (leaf_of l.linked.block) (take l.link-index l.link-items)
