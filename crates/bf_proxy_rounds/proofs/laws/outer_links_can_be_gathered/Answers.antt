use Rattle.bf_proxy_rounds.proofs.CompleteLemmas.{gathers_agree, gathers_few}
use Rattle.bf_proxy_rounds.proofs.laws.outer_links_can_be_gathered.Goals as goal

pub returns : goal.returns
returns c = record {
  few = λ shape levels ids w owner rank proxy can has before i octet. gathers_few shape levels ids w can owner rank proxy has before i octet;
  agree = λ shape levels ids w owner rank proxy can has before i octet. gathers_agree shape levels ids w can owner rank proxy has before i octet;
}
