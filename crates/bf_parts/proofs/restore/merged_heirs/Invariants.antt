use Rattle.std.proofs.Common.{◌≡◌, map, drop, ◌++◌, All}
use Rattle.bf_program.specs.Restores.{heir_of}
use Rattle.bf_parts.specs.Merges.{merged}
use Rattle.bf_parts.proofs.restore.merged_heirs.Given as goal

abbrev pub invariant-loop-item : goal.invariant-loop-item
invariant-loop-item g l = record {
  so_far : l.all.items ++ map (g.T.Linked.kind.remap (λ owner. heir_of l.homes l.live l.shift owner)) (merged g.T.Linked.kind.first (drop l.item-index l.own) l.rest)
      ≡ map (g.T.Linked.kind.remap (λ owner. heir_of l.homes l.live l.shift owner)) (merged g.T.Linked.kind.first l.own l.initial.rest);
  among : All (g.T.Linked.is_among l.homes) l.rest;
}
