use Rattle.std.proofs.Common.{arith}
use Rattle.bf_world.specs.Worlds.{ReceivesNext}
use Rattle.bf_world.proofs.CallLemmas.{of_fields, receives_between}
use Rattle.bf_world.proofs.world.World.recv.Goals as goal

pub is_empty-requires-clause-from : goal.is_empty-requires-clause-from
is_empty-requires-clause-from g c =
    let laws = g.met.P.RankProgram.lawful c.self.inside.setup in
    let receives = of_fields (λ s j w p. ReceivesNext g.P.RankProgram.meanings s j c.args.rank c.args.peer) _ _ _ _ _ c.self.view_is c.requires in
    let between = receives_between _ _ _ laws.limits laws.goods laws.stores laws.peers _ _ _ _ _ c.self.invariant c.args.rank c.args.peer receives in
    omega (arith, between.other, c.self.invariant.queues.ranks)

pub is_empty-requires-clause-to : goal.is_empty-requires-clause-to
is_empty-requires-clause-to g c =
    let laws = g.met.P.RankProgram.lawful c.self.inside.setup in
    let receives = of_fields (λ s j w p. ReceivesNext g.P.RankProgram.meanings s j c.args.rank c.args.peer) _ _ _ _ _ c.self.view_is c.requires in
    let between = receives_between _ _ _ laws.limits laws.goods laws.stores laws.peers _ _ _ _ _ c.self.invariant c.args.rank c.args.peer receives in
    omega (arith, between.its, c.self.invariant.queues.ranks)
