use Rattle.std.proofs.Common.{◌≡◌, All, flat_map, map}
use Rattle.std.specs.List.{range_with_len}
use Rattle.bf_id.specs.Id.{root_id}
use Rattle.bf_block.specs.Block.{BlockValue, after_regrid}
use Rattle.bf_block.specs.Setup.{case_of}
use Rattle.bf_ghost.proofs.AllLeaves.{first_heirs}
use Rattle.bf_ghost.proofs.tests.levels.first_leaves.Given as goal

abbrev pub invariant-loop-root : goal.invariant-loop-root
invariant-loop-root g l = record {
  ids : map (λ (b : BlockValue). b.id) l.blocks.items ≡ flat_map (first_heirs (case_of l.setup)) (map root_id (range_with_len 0 l.root));
  cases : All (λ (b : BlockValue). b.case ≡ case_of l.setup) l.blocks.items;
  points : All (λ (b : BlockValue). b.point ≡ after_regrid 0) l.blocks.items;
}
