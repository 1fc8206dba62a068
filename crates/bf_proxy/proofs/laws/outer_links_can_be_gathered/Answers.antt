use Rattle.bf_proxy.proofs.LawLemmas.{gather_agrees, gather_few, outer_valid}
use Rattle.bf_proxy.proofs.laws.outer_links_can_be_gathered.Goals as goal

pub returns : goal.returns
returns c = record { valid = outer_valid; few = gather_few; agree = gather_agrees }
