use Rattle.std.proofs.Common.{◌≡◌, ◌++◌}
use Rattle.std.specs.Vec.Iter.{into_iter_items}
use Rattle.bf_parts.specs.Merges.{merged}
use Rattle.bf_parts.proofs.merging.merged.Given as goal

abbrev pub invariant-loop-item : goal.invariant-loop-item
invariant-loop-item g l = l.all.items ++ merged g.T.Linked.kind.first (into_iter_items l.item-iterator) l.others.items ≡ merged g.T.Linked.kind.first l.fn.own.items l.fn.others.items
