use Rattle.bf_stages.proofs.MoveLemmas.{move_by}
use Rattle.bf_stages.proofs.laws.a_move_gives_each_rank_its_new_part.Goals as goal

pub returns : goal.returns
returns g c = λ first keys item item_after rising old new known peers talks going settle members sees rise mutual_peers talks_is going_is settle_is owned to_peers. move_by first keys item item_after rising old new known peers talks going settle members sees rise mutual_peers talks_is going_is settle_is owned to_peers
