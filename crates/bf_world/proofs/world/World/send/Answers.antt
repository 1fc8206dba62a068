use Rattle.std.proofs.Common.{arith}
use Rattle.bf_world.specs.Worlds.{SendsNext}
use Rattle.bf_world.proofs.WorldLemmas.{legal_somewhere, events_counted, queues_counted, room_after, noted_after}
use Rattle.bf_world.proofs.CallLemmas.{of_fields, sends_between, measured_legal, world_measured}
use Rattle.bf_world.proofs.world.World.send.Goals as goal

pub push-requires-clause-from : goal.push-requires-clause-from
push-requires-clause-from g c =
    let laws = g.met.P.RankProgram.lawful c.self.inside.setup in
    let sends = of_fields (λ s j w p. SendsNext g.P.RankProgram.meanings s j c.args.rank c.args.to c.args.msg) _ _ _ _ _ c.self.view_is c.requires in
    let between = sends_between _ _ _ laws.limits laws.goods laws.stores laws.peers _ _ _ _ _ c.self.invariant c.args.rank c.args.to c.args.msg sends in
    omega (arith, between.its, c.self.invariant.queues.ranks)

pub push-requires-clause-to : goal.push-requires-clause-to
push-requires-clause-to g c =
    let laws = g.met.P.RankProgram.lawful c.self.inside.setup in
    let sends = of_fields (λ s j w p. SendsNext g.P.RankProgram.meanings s j c.args.rank c.args.to c.args.msg) _ _ _ _ _ c.self.view_is c.requires in
    let between = sends_between _ _ _ laws.limits laws.goods laws.stores laws.peers _ _ _ _ _ c.self.invariant c.args.rank c.args.to c.args.msg sends in
    omega (arith, between.other, c.self.invariant.queues.ranks)

pub step-requires-clause-legal : goal.step-requires-clause-legal
step-requires-clause-legal g c =
    let laws = g.met.P.RankProgram.lawful c.self.inside.setup in
    let sends = of_fields (λ s j w p. SendsNext g.P.RankProgram.meanings s j c.args.rank c.args.to c.args.msg) _ _ _ _ _ c.self.view_is c.requires in
    legal_somewhere _ _ _ laws.limits laws.goods laws.stores laws.peers _ _ _ _ _ c.self.invariant _
    (measured_legal _ _ _ laws.limits laws.goods laws.stores laws.peers _ _ _ _ _ c.self.invariant c.args.rank c.args.to c.args.msg c.measure-blocks.result c.measure-blocks.ensures sends)

pub step-requires-clause-events : goal.step-requires-clause-events
step-requires-clause-events g c =
    let laws = g.met.P.RankProgram.lawful c.self.inside.setup in
    events_counted _ _ _ laws.limits laws.goods laws.stores laws.peers _ _ _ _ _ c.self.invariant _ c.args.rank c.reserve.ensures.events

pub step-requires-clause-queues : goal.step-requires-clause-queues
step-requires-clause-queues g c = λ from to.
    let laws = g.met.P.RankProgram.lawful c.self.inside.setup in
    queues_counted _ _ _ laws.limits laws.goods laws.stores laws.peers _ _ _ _ _ c.self.invariant _ from to c.reserve.ensures.events

pub invariant_of-self-2 : goal.invariant_of-self-2
invariant_of-self-2 g c =
    let laws = g.met.P.RankProgram.lawful c.self.inside.setup in
    let sends = of_fields (λ s j w p. SendsNext g.P.RankProgram.meanings s j c.args.rank c.args.to c.args.msg) _ _ _ _ _ c.self.view_is c.requires in
    world_measured _ _ _ laws.limits laws.goods laws.stores laws.peers _ _ _ _ _ c.self.invariant c.args.rank c.args.to c.args.msg c.measure-blocks.result
    c.step.new.core c.push.new.self c.step.new.journal c.measure-blocks.ensures sends (noted_after _ _ _ _ c.step.ensures.events c.reserve.ensures.events) c.step.ensures.core
    c.in_ok-push.ensures.ok
    (room_after _ _ _ _ _ _ c.room_for-more.ensures c.in-Ok.ensures.room c.step.ensures.room c.self.invariant.queues.ranks)
