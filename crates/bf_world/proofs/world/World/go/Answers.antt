use Rattle.std.proofs.Common.{◌≡◌, true, false, refl}
use Rattle.bf_core.specs.Stages.{is_leaving}
use Rattle.bf_core.specs.States.{stage, is_due}
use Rattle.bf_world.specs.Worlds.{core_after}
use Rattle.bf_world.proofs.WorldLemmas.{legal_somewhere, events_counted, queues_counted}
use Rattle.bf_world.proofs.CallLemmas.{of_fields, leaves_legal, left_room, world_left}
use Rattle.bf_world.proofs.world.World.go.Goals as goal

pub step-requires-clause-legal : goal.step-requires-clause-legal
step-requires-clause-legal g c =
    let laws = g.met.P.RankProgram.lawful c.self.inside.setup in
    let leaving = of_fields (λ s j w p. is_leaving (stage (core_after g.P.RankProgram.meanings s j) c.args.rank) ≡ true) _ _ _ _ _ c.self.view_is c.requires.leaving in
    let undue = of_fields (λ s j w p. is_due (core_after g.P.RankProgram.meanings s j) c.args.rank ≡ false) _ _ _ _ _ c.self.view_is c.requires.undue in
    legal_somewhere _ _ _ laws.limits laws.goods laws.stores laws.peers _ _ _ _ _ c.self.invariant _
    (leaves_legal _ _ _ laws.limits laws.goods laws.stores laws.peers _ _ _ _ _ c.self.invariant c.args.rank leaving undue)

pub step-requires-clause-events : goal.step-requires-clause-events
step-requires-clause-events g c =
    let laws = g.met.P.RankProgram.lawful c.self.inside.setup in
    events_counted _ _ _ laws.limits laws.goods laws.stores laws.peers _ _ _ _ _ c.self.invariant _ c.args.rank refl

pub step-requires-clause-queues : goal.step-requires-clause-queues
step-requires-clause-queues g c = λ from to.
    let laws = g.met.P.RankProgram.lawful c.self.inside.setup in
    queues_counted _ _ _ laws.limits laws.goods laws.stores laws.peers _ _ _ _ _ c.self.invariant _ from to refl

pub step-requires-clause-room : goal.step-requires-clause-room
step-requires-clause-room g c =
    let laws = g.met.P.RankProgram.lawful c.self.inside.setup in
    let leaving = of_fields (λ s j w p. is_leaving (stage (core_after g.P.RankProgram.meanings s j) c.args.rank) ≡ true) _ _ _ _ _ c.self.view_is c.requires.leaving in
    left_room _ _ _ laws.limits laws.goods laws.stores laws.peers _ _ _ _ _ c.self.invariant _ leaving

pub invariant_of-self : goal.invariant_of-self
invariant_of-self g c =
    let laws = g.met.P.RankProgram.lawful c.self.inside.setup in
    let leaving = of_fields (λ s j w p. is_leaving (stage (core_after g.P.RankProgram.meanings s j) c.args.rank) ≡ true) _ _ _ _ _ c.self.view_is c.requires.leaving in
    let undue = of_fields (λ s j w p. is_due (core_after g.P.RankProgram.meanings s j) c.args.rank ≡ false) _ _ _ _ _ c.self.view_is c.requires.undue in
    world_left _ _ _ laws.limits laws.goods laws.stores laws.peers _ _ _ _ _ c.self.invariant c.args.rank
    c.step.new.core c.step.new.journal leaving undue c.step.ensures.events c.step.ensures.core c.step.ensures.room
