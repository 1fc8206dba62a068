use Rattle.bf_parts.specs.MoveLaws.{moved_is}
use Rattle.bf_parts.proofs.laws.what_stays_and_what_comes_is_the_new_part.Goals as goal

pub returns : goal.returns
returns g c = λ kind leaves are owner later rank peers apart among. moved_is kind leaves are owner later rank peers apart among
