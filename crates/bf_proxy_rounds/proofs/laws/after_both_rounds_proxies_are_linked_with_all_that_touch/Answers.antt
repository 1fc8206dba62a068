use Rattle.bf_proxy_rounds.proofs.LinkedLemmas.{all_sources, all_touching, new_ids}
use Rattle.bf_proxy_rounds.proofs.laws.after_both_rounds_proxies_are_linked_with_all_that_touch.Goals as goal

pub returns : goal.returns
returns c = record {
  new = λ shape ids w owner rank. new_ids shape ids w owner rank;
  linked = λ shape ids w owner rank. all_touching shape ids w owner rank;
  sources = λ shape levels ids w owner rank can. all_sources shape levels ids w can owner rank;
}
