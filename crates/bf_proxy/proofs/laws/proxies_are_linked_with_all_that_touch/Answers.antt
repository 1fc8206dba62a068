use Rattle.bf_proxy.proofs.LawLemmas.{linked}
use Rattle.bf_proxy.proofs.laws.proxies_are_linked_with_all_that_touch.Goals as goal

pub returns : goal.returns
returns c = linked
