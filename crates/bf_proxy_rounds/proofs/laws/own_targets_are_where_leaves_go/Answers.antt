use Rattle.bf_proxy_rounds.proofs.TargetLemmas.{targets_told}
use Rattle.bf_proxy_rounds.proofs.laws.own_targets_are_where_leaves_go.Goals as goal

pub returns : goal.returns
returns c = λ shape levels ids w owner homes proxies rank can. targets_told shape levels ids w can owner homes proxies rank
