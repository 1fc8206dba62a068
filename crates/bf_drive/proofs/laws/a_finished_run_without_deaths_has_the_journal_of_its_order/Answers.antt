use Rattle.bf_world.proofs.WantLemmas.{finished_fits}
use Rattle.bf_drive.proofs.AloneLemmas.{driven_once}
use Rattle.bf_drive.proofs.laws.a_finished_run_without_deaths_has_the_journal_of_its_order.Goals as goal

pub returns : goal.returns
returns g c = λ setup order journal other legal lawful over end finishes stops lives alive driven its.
    let laws = g.met.P.RankProgram.lawful setup in
    let m = g.P.RankProgram.meanings in
    driven_once m g.P.RankProgram.good setup order journal other
    (record { legal = legal; nobody = finished_fits m g.P.RankProgram.good setup laws.goods laws.stores laws.limits journal legal finishes lives })
    (record { legal = lawful; nobody = finished_fits m g.P.RankProgram.good setup laws.goods laws.stores laws.limits other lawful stops alive }) over end driven its
