use Rattle.bf_mark_rounds.proofs.ReachLemmas.{own_chains, heard_chains}
use Rattle.bf_mark_rounds.proofs.laws.force_rounds_follow_chains.Goals as goal

pub returns : goal.returns
returns c = record {
  own = λ shape ids w owner rounds rank i. own_chains shape ids w owner rounds rank i;
  heard = λ shape ids w owner rounds rank i. heard_chains shape ids w owner rounds rank i;
}
