use Rattle.std.proofs.Common.{◌≡◌, ◌<◌, arith, length, ◌∷◌, drop, sym}
use Rattle.std.specs.Prelude.{Some, slice_get}
use Rattle.bf_core.specs.Places.{round_of}
use Rattle.bf_world.specs.Queues.{messages}
use Rattle.bf_world.specs.Worlds.{ReceivesNext, place_after, message_after}
use Rattle.bf_world.proofs.WorldLemmas.{legal_somewhere, events_counted, queues_counted, room_after, noted_after}
use Rattle.bf_world.proofs.CallLemmas.{of_fields, as_seen, receives_between, receives_legal, front_got, world_received}
use Rattle.bf_world.proofs.world.World.take.Goals as goal

pub pop-requires-clause-from : goal.pop-requires-clause-from
pop-requires-clause-from g c =
    let laws = g.met.P.RankProgram.lawful c.self.inside.setup in
    let receives = of_fields (λ s j w p. ReceivesNext g.P.RankProgram.meanings s j c.args.rank c.args.peer) _ _ _ _ _ c.self.view_is c.requires.next in
    let between = receives_between _ _ _ laws.limits laws.goods laws.stores laws.peers _ _ _ _ _ c.self.invariant c.args.rank c.args.peer receives in
    omega (arith, between.other, c.self.invariant.queues.ranks)

pub pop-requires-clause-to : goal.pop-requires-clause-to
pop-requires-clause-to g c =
    let laws = g.met.P.RankProgram.lawful c.self.inside.setup in
    let receives = of_fields (λ s j w p. ReceivesNext g.P.RankProgram.meanings s j c.args.rank c.args.peer) _ _ _ _ _ c.self.view_is c.requires.next in
    let between = receives_between _ _ _ laws.limits laws.goods laws.stores laws.peers _ _ _ _ _ c.self.invariant c.args.rank c.args.peer receives in
    omega (arith, between.its, c.self.invariant.queues.ranks)

pub step-requires-clause-legal : goal.step-requires-clause-legal
step-requires-clause-legal g c =
    let laws = g.met.P.RankProgram.lawful c.self.inside.setup in
    let receives = of_fields (λ s j w p. ReceivesNext g.P.RankProgram.meanings s j c.args.rank c.args.peer) _ _ _ _ _ c.self.view_is c.requires.next in
    let some = of_fields (λ s j w p. 0 < length (messages w c.args.peer c.args.rank)) _ _ _ _ _ c.self.view_is c.requires.some in
    legal_somewhere _ _ _ laws.limits laws.goods laws.stores laws.peers _ _ _ _ _ c.self.invariant _ (receives_legal _ _ _ laws.limits laws.goods laws.stores laws.peers _ _ _ _ _ c.self.invariant c.args.rank c.args.peer receives some)

pub step-requires-clause-events : goal.step-requires-clause-events
step-requires-clause-events g c =
    let laws = g.met.P.RankProgram.lawful c.self.inside.setup in
    events_counted _ _ _ laws.limits laws.goods laws.stores laws.peers _ _ _ _ _ c.self.invariant _ c.args.rank c.reserve.ensures.events

pub step-requires-clause-queues : goal.step-requires-clause-queues
step-requires-clause-queues g c = λ from to.
    let laws = g.met.P.RankProgram.lawful c.self.inside.setup in
    queues_counted _ _ _ laws.limits laws.goods laws.stores laws.peers _ _ _ _ _ c.self.invariant _ from to c.reserve.ensures.events

pub invariant_of-self-2 : goal.invariant_of-self-2
invariant_of-self-2 g c =
    let laws = g.met.P.RankProgram.lawful c.self.inside.setup in
    let receives = of_fields (λ s j w p. ReceivesNext g.P.RankProgram.meanings s j c.args.rank c.args.peer) _ _ _ _ _ c.self.view_is c.requires.next in
    let some = of_fields (λ s j w p. 0 < length (messages w c.args.peer c.args.rank)) _ _ _ _ _ c.self.view_is c.requires.some in
    world_received _ _ _ laws.limits laws.goods laws.stores laws.peers _ _ _ _ _ c.self.invariant c.args.rank c.args.peer
    c.step.new.core c.pop.new.self c.step.new.journal receives some (noted_after _ _ _ _ c.step.ensures.events c.reserve.ensures.events) c.step.ensures.core
    c.pop.ensures.rest
    (room_after _ _ _ _ _ _ c.room_for-more.ensures c.in_ok-reserve.ensures.room c.step.ensures.room c.self.invariant.queues.ranks)

pub returns-clause-ok : goal.returns-clause-ok
returns-clause-ok g c =
    let laws = g.met.P.RankProgram.lawful c.self.inside.setup in
    let receives = of_fields (λ s j w p. ReceivesNext g.P.RankProgram.meanings s j c.args.rank c.args.peer) _ _ _ _ _ c.self.view_is c.requires.next in
    let got = as_seen (λ s j w p. (messages w c.args.peer c.args.rank ≡ c.in-Some.msg ∷ drop 1 (messages w c.args.peer c.args.rank))
    × (message_after g.P.RankProgram.meanings s j c.args.peer c.args.rank (round_of (place_after g.P.RankProgram.meanings s j c.args.rank)) ≡ Some c.in-Some.msg)) _ _ _ _ _ c.self.view_is
    (front_got _ _ _ laws.limits laws.goods laws.stores laws.peers _ _ _ _ _ c.self.invariant c.args.rank c.args.peer c.in-Some.msg receives (sym {b = slice_get (messages c.self.inside.queues c.args.peer c.args.rank) 0} c.in-Some.ensures.front)) in
    let kept = as_seen (λ s j w p. c.reserve.new.self.events ≡ j) _ _ _ _ _ c.self.view_is c.reserve.ensures.events in
    (got.0, (got.1, noted_after _ _ _ _ c.step.ensures.events kept))
