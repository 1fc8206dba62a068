use Rattle.std.proofs.Common.{◌≡◌, true, false}
use Rattle.bf_core.specs.declared.event.Event.TheVariants.{Arrive}
use Rattle.bf_core.specs.declared.event.How.TheVariants.{Broken}
use Rattle.bf_world.specs.Runs.{is_legal_in, run_after}
use Rattle.bf_world.proofs.WorldLemmas.{legal_somewhere, events_counted, queues_counted, room_after, noted_after}
use Rattle.bf_world.proofs.CallLemmas.{countable, of_fields, rank_later, broken_active, active_within, world_broken}
use Rattle.bf_world.proofs.world.World.break_off.Goals as goal

pub step-requires-clause-legal : goal.step-requires-clause-legal
step-requires-clause-legal g c =
    let laws = g.met.P.RankProgram.lawful c.self.inside.setup in
    let legal = of_fields (λ s j w p. is_legal_in g.P.RankProgram.meanings s (run_after g.P.RankProgram.meanings s j) (Arrive c.args.rank Broken) ≡ true) _ _ _ _ _ c.self.view_is c.requires in
    legal_somewhere _ _ _ laws.limits laws.goods laws.stores laws.peers _ _ _ _ _ c.self.invariant _ legal

pub step-requires-clause-events : goal.step-requires-clause-events
step-requires-clause-events g c =
    let laws = g.met.P.RankProgram.lawful c.self.inside.setup in
    events_counted _ _ _ laws.limits laws.goods laws.stores laws.peers _ _ _ _ _ c.self.invariant _ c.args.rank c.reserve.ensures.events

pub step-requires-clause-queues : goal.step-requires-clause-queues
step-requires-clause-queues g c = λ from to.
    let laws = g.met.P.RankProgram.lawful c.self.inside.setup in
    queues_counted _ _ _ laws.limits laws.goods laws.stores laws.peers _ _ _ _ _ c.self.invariant _ from to c.reserve.ensures.events

pub settle-requires-clause-rank : goal.settle-requires-clause-rank
settle-requires-clause-rank g c =
    let laws = g.met.P.RankProgram.lawful c.self.inside.setup in
    let legal = of_fields (λ s j w p. is_legal_in g.P.RankProgram.meanings s (run_after g.P.RankProgram.meanings s j) (Arrive c.args.rank Broken) ≡ true) _ _ _ _ _ c.self.view_is c.requires in
    rank_later c.self.inside.core c.step.new.core (Arrive c.args.rank Broken) false c.args.rank c.step.ensures.core
    (active_within _ _ _ laws.limits laws.goods laws.stores laws.peers _ _ _ _ _ c.self.invariant c.args.rank
    (broken_active _ _ _ laws.limits laws.goods laws.stores laws.peers _ _ _ _ _ c.self.invariant c.args.rank legal))

pub settle-requires-clause-few : goal.settle-requires-clause-few
settle-requires-clause-few g c =
    let laws = g.met.P.RankProgram.lawful c.self.inside.setup in
    countable _ _ _ laws.limits laws.goods laws.stores laws.peers _ _ _ _ _ c.self.invariant

pub invariant_of-self-2 : goal.invariant_of-self-2
invariant_of-self-2 g c =
    let laws = g.met.P.RankProgram.lawful c.self.inside.setup in
    let legal = of_fields (λ s j w p. is_legal_in g.P.RankProgram.meanings s (run_after g.P.RankProgram.meanings s j) (Arrive c.args.rank Broken) ≡ true) _ _ _ _ _ c.self.view_is c.requires in
    world_broken _ _ _ laws.limits laws.goods laws.stores laws.peers _ _ _ _ _ c.self.invariant c.args.rank
    c.step.new.core c.settle.new.queues c.step.new.journal _ c.settle.new.restores c.settle.ensures.queues c.settle.ensures.restores
    legal (noted_after _ _ _ _ c.step.ensures.events c.reserve.ensures.events) c.step.ensures.core c.settle.ensures.parcels
    (room_after _ _ _ _ _ _ c.room_for-more.ensures c.in_ok-reserve.ensures.room c.step.ensures.room c.self.invariant.queues.ranks)
