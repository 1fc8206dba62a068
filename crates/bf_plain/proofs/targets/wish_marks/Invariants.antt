use Rattle.std.proofs.Common.{◌≡◌, map, take}
use Rattle.bf_plain.proofs.TargetLemmas.{leaf_finer, leaf_coarser}
use Rattle.bf_plain.proofs.targets.wish_marks.Given as goal

abbrev pub invariant-loop-id : goal.invariant-loop-id
invariant-loop-id l = record {
  finer : l.finer.items ≡ map (leaf_finer l.case) (take l.id-index l.leaves);
  coarser : l.coarser.items ≡ map (leaf_coarser l.case) (take l.id-index l.leaves);
}
