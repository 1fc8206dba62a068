use Rattle.bf_proxy.proofs.JoinLemmas.{joined_both, joined_rises, rising_agree}
use Rattle.bf_proxy.proofs.laws.joined_links_are_those_of_both.Goals as goal

pub returns : goal.returns
returns c = record {
  rising = joined_rises;
  both = λ more links link rising agree. joined_both more links (rising_agree more rising) agree link;
}
