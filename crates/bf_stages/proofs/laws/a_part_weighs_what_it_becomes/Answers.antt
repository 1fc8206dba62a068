use Rattle.bf_stages.proofs.HeirLemmas.{split_weighs}
use Rattle.bf_stages.proofs.laws.a_part_weighs_what_it_becomes.Goals as goal

pub returns : goal.returns
returns g c = λ now next heirs keys_are owner later inherit test same rank. split_weighs now next heirs keys_are owner later inherit test same rank
