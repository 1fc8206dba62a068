use Rattle.bf_world.specs.Runs.{run_after}
use Rattle.bf_world.proofs.LawfulLemmas.{after_lawful}
use Rattle.bf_world.proofs.OrderLemmas.{somebody_can_move}
use Rattle.bf_drive.proofs.laws.somebody_can_move.Goals as goal

pub returns : goal.returns
returns g c = λ unfinished.
    let setup = c.args.world.now.setup in
    let laws = g.met.P.RankProgram.lawful setup in
    let m = g.P.RankProgram.meanings in
    let good = g.P.RankProgram.good in
    somebody_can_move m good setup laws.goods laws.stores laws.peers (run_after m setup c.args.world.now.journal) c.args.world.now.waiting
    (after_lawful m good setup laws.goods laws.stores laws.limits c.args.world.now.journal c.known.ensures.legal) c.known.ensures.queues unfinished
