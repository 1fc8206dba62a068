use Rattle.std.proofs.Common.{◌≡◌}
use Rattle.bf_lemmas.proofs.Passes.{passed_below}
use Rattle.bf_migrate_rounds.proofs.CommonLemmas.{stays}
use Rattle.bf_migrate_rounds.proofs.peers.among.Given as goal

abbrev pub invariant-loop-other : goal.invariant-loop-other
invariant-loop-other l = l.common ≡ passed_below (stays l.ranks l.members) l.members l.other
