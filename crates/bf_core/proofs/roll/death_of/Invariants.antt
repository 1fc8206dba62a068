use Rattle.std.proofs.Common.{◌≡◌, drop}
use Rattle.std.specs.Prelude.{◌==◌}
use Rattle.std.specs.Map.{lookup}
use Rattle.bf_core.proofs.roll.death_of.Given as goal

abbrev pub invariant-loop-death : goal.invariant-loop-death
invariant-loop-death l = lookup (λ other. other == l.rank) (drop l.death-index l.dies) ≡ lookup (λ other. other == l.rank) l.dies
