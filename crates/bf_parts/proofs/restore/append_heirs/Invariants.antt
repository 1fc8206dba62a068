use Rattle.std.proofs.Common.{◌≡◌, map, take, ◌++◌}
use Rattle.bf_program.specs.Restores.{heir_of}
use Rattle.bf_parts.proofs.restore.append_heirs.Given as goal

abbrev pub invariant-loop-item : goal.invariant-loop-item
invariant-loop-item g l = l.all.items ≡ l.initial.all.items ++ map (g.T.Linked.kind.remap (λ owner. heir_of l.homes l.live l.shift owner)) (take l.item-index l.items)
