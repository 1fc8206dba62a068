use Rattle.std.proofs.Common.{◌-◌, ℕ}
use Rattle.bf_rank.specs.Ranks.{Sight}
use Rattle.bf_rank.specs.Steps.{Begins}
use Rattle.bf_rank.proofs.PassLemmas.{GoesOn}
use Rattle.bf_rank.proofs.rounds.pass_rounds.Given as goal

abbrev pub invariant-loop-round : goal.invariant-loop-round
invariant-loop-round g l = record {
  some : (seen : Sight _) × ((rank : ℕ) × Begins g.P.RankProgram.meanings g.P.RankProgram.good l.setup seen l.epoch rank l.round l.local);
  all : (seen : Sight _) → (rank : ℕ) → Begins g.P.RankProgram.meanings g.P.RankProgram.good l.setup seen l.epoch rank l.from l.fn.local
      → GoesOn g.P.RankProgram.meanings g.P.RankProgram.good l.setup seen l.epoch rank l.from l.round l.local;
}

abbrev pub decreases-loop-round : goal.decreases-loop-round
decreases-loop-round g l = l.rounds - l.round
