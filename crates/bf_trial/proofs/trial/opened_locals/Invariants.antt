use Rattle.std.proofs.Common.{◌≡◌, map}
use Rattle.std.specs.List.{range_with_len}
use Rattle.bf_beads.specs.Meanings.{opened}
use Rattle.bf_trial.proofs.trial.opened_locals.Given as goal

abbrev pub invariant-loop-rank : goal.invariant-loop-rank
invariant-loop-rank l = l.locals.items ≡ map (opened l.setup.beads l.setup.ranks l.setup.shift) (range_with_len 0 l.rank)
