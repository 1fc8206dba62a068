use Rattle.bf_case.proofs.ChainLemmas.{refined_ids_are}
use Rattle.bf_case.proofs.laws.refined_leaves_end_chains.Goals as goal

pub returns : goal.returns
returns c = refined_ids_are
