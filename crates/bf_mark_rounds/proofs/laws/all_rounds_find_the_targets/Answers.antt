use Rattle.bf_mark_rounds.specs.AllRounds.{all_plays}
use Rattle.bf_mark_rounds.specs.FirstRound.{marked_at, unmarked_at}
use Rattle.bf_mark_rounds.specs.Shares.{found_below, marking_at, share}
use Rattle.bf_mark_rounds.proofs.AllRoundLemmas.{all_lead}
use Rattle.bf_mark_rounds.proofs.RoundLemmas.{targets_are}
use Rattle.bf_mark_rounds.proofs.SequenceLemmas.{through_rounds}
use Rattle.bf_mark_rounds.proofs.laws.all_rounds_find_the_targets.Goals as goal

pub returns : goal.returns
returns g c = record {
  lead = λ shape levels ids w owner members map_is some few stop rise owned. all_lead shape ids w owner members levels map_is some few stop rise owned;
  find = λ m setup epoch round shape levels ids w owner map_is some few stop rise owned all_played. record {
    marks = share shape ids w owner (found_below shape ids w 0 0) (found_below shape ids w 0 0);
    are = through_rounds m setup epoch round (all_plays levels) (unmarked_at shape ids w owner)
        (marked_at shape ids w owner (marking_at shape ids w owner (found_below shape ids w 0 0) (found_below shape ids w 0 0))) all_played
        (all_lead shape ids w owner epoch.members levels map_is some few stop rise owned);
    targets = λ rank i has known. targets_are shape ids levels map_is few w owner rank i has known;
  };
}
