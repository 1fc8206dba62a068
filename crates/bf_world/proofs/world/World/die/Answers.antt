use Rattle.std.proofs.Common.{◌≡◌, true, false, refl}
use Rattle.bf_core.specs.declared.event.Event.TheVariants.{Die}
use Rattle.bf_core.specs.States.{is_due}
use Rattle.bf_world.specs.Worlds.{core_after}
use Rattle.bf_world.proofs.WorldLemmas.{legal_somewhere, events_counted, queues_counted}
use Rattle.bf_world.proofs.CallLemmas.{countable, of_fields, rank_later, dies_legal, due_within, died_room, world_died}
use Rattle.bf_world.proofs.world.World.die.Goals as goal

pub forget-requires : goal.forget-requires
forget-requires g c =
    let laws = g.met.P.RankProgram.lawful c.self.inside.setup in
    let due = of_fields (λ s j w p. is_due (core_after g.P.RankProgram.meanings s j) c.args.rank ≡ true) _ _ _ _ _ c.self.view_is c.requires in
    due_within _ _ _ laws.limits laws.goods laws.stores laws.peers _ _ _ _ _ c.self.invariant _ due

pub step-requires-clause-legal : goal.step-requires-clause-legal
step-requires-clause-legal g c =
    let laws = g.met.P.RankProgram.lawful c.self.inside.setup in
    let due = of_fields (λ s j w p. is_due (core_after g.P.RankProgram.meanings s j) c.args.rank ≡ true) _ _ _ _ _ c.self.view_is c.requires in
    legal_somewhere _ _ _ laws.limits laws.goods laws.stores laws.peers _ _ _ _ _ c.self.invariant _
    (dies_legal _ _ _ laws.limits laws.goods laws.stores laws.peers _ _ _ _ _ c.self.invariant c.args.rank due)

pub step-requires-clause-events : goal.step-requires-clause-events
step-requires-clause-events g c =
    let laws = g.met.P.RankProgram.lawful c.self.inside.setup in
    events_counted _ _ _ laws.limits laws.goods laws.stores laws.peers _ _ _ _ _ c.self.invariant _ c.args.rank refl

pub step-requires-clause-queues : goal.step-requires-clause-queues
step-requires-clause-queues g c = λ from to.
    let laws = g.met.P.RankProgram.lawful c.self.inside.setup in
    queues_counted _ _ _ laws.limits laws.goods laws.stores laws.peers _ _ _ _ _ c.self.invariant _ from to refl

pub step-requires-clause-room : goal.step-requires-clause-room
step-requires-clause-room g c =
    let laws = g.met.P.RankProgram.lawful c.self.inside.setup in
    let due = of_fields (λ s j w p. is_due (core_after g.P.RankProgram.meanings s j) c.args.rank ≡ true) _ _ _ _ _ c.self.view_is c.requires in
    died_room _ _ _ laws.limits laws.goods laws.stores laws.peers _ _ _ _ _ c.self.invariant _ due

pub settle-requires-clause-rank : goal.settle-requires-clause-rank
settle-requires-clause-rank g c =
    let laws = g.met.P.RankProgram.lawful c.self.inside.setup in
    let due = of_fields (λ s j w p. is_due (core_after g.P.RankProgram.meanings s j) c.args.rank ≡ true) _ _ _ _ _ c.self.view_is c.requires in
    rank_later c.self.inside.core c.step.new.core (Die c.args.rank) false c.args.rank c.step.ensures.core (due_within _ _ _ laws.limits laws.goods laws.stores laws.peers _ _ _ _ _ c.self.invariant c.args.rank due)

pub settle-requires-clause-few : goal.settle-requires-clause-few
settle-requires-clause-few g c =
    let laws = g.met.P.RankProgram.lawful c.self.inside.setup in
    countable _ _ _ laws.limits laws.goods laws.stores laws.peers _ _ _ _ _ c.self.invariant

pub invariant_of-self : goal.invariant_of-self
invariant_of-self g c =
    let laws = g.met.P.RankProgram.lawful c.self.inside.setup in
    let due = of_fields (λ s j w p. is_due (core_after g.P.RankProgram.meanings s j) c.args.rank ≡ true) _ _ _ _ _ c.self.view_is c.requires in
    world_died _ _ _ laws.limits laws.goods laws.stores laws.peers _ _ _ _ _ c.self.invariant c.args.rank
    c.step.new.core c.settle.new.queues c.step.new.journal _ c.settle.new.restores c.settle.ensures.queues c.settle.ensures.restores
    _ due c.step.ensures.events c.step.ensures.core c.forget.ensures c.settle.ensures.parcels c.step.ensures.room
