use Rattle.bf_stages.proofs.HeirLemmas.{join_part}
use Rattle.bf_stages.proofs.laws.a_part_is_what_joins_into_the_new_part.Goals as goal

pub returns : goal.returns
returns g c = λ now next joining keys_are owner later inherit rank. join_part now next joining keys_are owner later inherit rank
