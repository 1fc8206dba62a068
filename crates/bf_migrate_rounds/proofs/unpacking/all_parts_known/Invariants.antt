use Rattle.std.proofs.Common.{ℕ, ◌<◌, get_or}
use Rattle.bf_block.specs.declared.cargo.Cargo.{Cargo}
use Rattle.bf_migrate_rounds.specs.Calls.{IsKnown}
use Rattle.bf_migrate_rounds.proofs.unpacking.all_parts_known.Given as goal

abbrev pub invariant-loop-part : goal.invariant-loop-part
invariant-loop-part l = (k : ℕ) (d : Cargo) → k < l.part-index → IsKnown (get_or l.parts k d)
