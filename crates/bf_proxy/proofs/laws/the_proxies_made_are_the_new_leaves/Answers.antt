use Rattle.bf_proxy.proofs.LawLemmas.{all_made_ids, new_rise}
use Rattle.bf_proxy.proofs.laws.the_proxies_made_are_the_new_leaves.Goals as goal

pub returns : goal.returns
returns c = record { all = all_made_ids; once = new_rise }
