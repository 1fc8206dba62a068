use Rattle.bf_proxy.proofs.LawLemmas.{completed}
use Rattle.bf_proxy.proofs.laws.gathering_completes_a_merged_proxy.Goals as goal

pub returns : goal.returns
returns c = completed
