use Rattle.std.proofs.Common.{◌≡◌, ◌++◌, take}
use Rattle.bf_forest.specs.Rounds.{strips_to}
use Rattle.bf_forest.proofs.strips.tell_all.Given as goal

abbrev pub invariant-loop-linked : goal.invariant-loop-linked
invariant-loop-linked l = l.strips.items ≡ l.fn.strips.items ++ strips_to l.to (take l.linked-index l.blocks)
