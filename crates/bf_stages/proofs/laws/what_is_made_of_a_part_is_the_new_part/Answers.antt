use Rattle.bf_stages.proofs.HeirLemmas.{split_part}
use Rattle.bf_stages.proofs.laws.what_is_made_of_a_part_is_the_new_part.Goals as goal

pub returns : goal.returns
returns g c = λ now next heirs keys_are owner later inherit make rank makes. split_part now next heirs keys_are owner later inherit make rank makes
