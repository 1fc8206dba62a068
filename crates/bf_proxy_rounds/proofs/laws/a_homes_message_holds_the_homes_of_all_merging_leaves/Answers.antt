use Rattle.std.proofs.Common.{[]}
use Rattle.bf_proxy_rounds.proofs.HomesLemmas.{own_homes_are}
use Rattle.bf_proxy_rounds.proofs.laws.a_homes_message_holds_the_homes_of_all_merging_leaves.Goals as goal

pub returns : goal.returns
returns c = λ shape levels ids w owner from can. own_homes_are shape levels ids w can owner [] [] from
