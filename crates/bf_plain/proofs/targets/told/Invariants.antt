use Rattle.bf_plain.proofs.TargetLemmas.{ToldBelow}
use Rattle.bf_plain.proofs.targets.told.Given as goal

abbrev pub invariant-loop-leaf : goal.invariant-loop-leaf
invariant-loop-leaf l = ToldBelow l.refined l.merging l.leaf l.targets.items
