use Rattle.std.proofs.Common.{ℕ, ◌<◌, get_or}
use Rattle.bf_block.specs.Block.{BlockValue, IsModels}
use Rattle.bf_migrate_rounds.proofs.unpacking.all_known.Given as goal

abbrev pub invariant-loop-block : goal.invariant-loop-block
invariant-loop-block l = (k : ℕ) (d : BlockValue) → k < l.block-index → IsModels (get_or l.blocks k d)
