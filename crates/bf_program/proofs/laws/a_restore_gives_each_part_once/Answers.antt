use Rattle.bf_program.proofs.RestoreLemmas.{given_where_whole}
use Rattle.bf_program.proofs.laws.a_restore_gives_each_part_once.Goals as goal

pub returns : goal.returns
returns g c = λ setup. given_where_whole _ _ setup (g.met.P.RankProgram.lawful setup).goods (g.met.P.RankProgram.lawful setup).stores (g.met.P.RankProgram.lawful setup).parts
    c.nothing_is_lost_where_holders_live.ensures
