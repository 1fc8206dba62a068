use Rattle.bf_stages.proofs.MoveLemmas.{move_weighs}
use Rattle.bf_stages.proofs.laws.a_move_keeps_all_items.Goals as goal

pub returns : goal.returns
returns g c = λ first talks going settle test same. move_weighs first talks going settle test same
