use Rattle.bf_mark_rounds.proofs.RoundLemmas.{may_leads, merges_lead}
use Rattle.bf_mark_rounds.proofs.laws.the_rounds_of_a_level_lead_on.Goals as goal

pub returns : goal.returns
returns c = record {
  may = λ shape levels ids w owner before members map_is few rise owned. may_leads shape ids levels map_is few w owner members rise owned before;
  merges = λ shape levels ids w owner before members map_is few rise owned. merges_lead shape ids levels map_is few w owner members rise owned before;
}
