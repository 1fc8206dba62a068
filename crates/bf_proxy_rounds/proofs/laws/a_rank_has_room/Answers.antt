use Rattle.std.proofs.Common.{[]}
use Rattle.bf_proxy_rounds.proofs.MakableLemmas.{own_room}
use Rattle.bf_proxy_rounds.proofs.laws.a_rank_has_room.Goals as goal

pub returns : goal.returns
returns c = λ shape levels ids w owner rank can. own_room shape levels ids w can owner [] rank
