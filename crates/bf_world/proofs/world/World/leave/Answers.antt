use Rattle.std.proofs.Common.{◌≡◌, ◌||◌, true}
use Rattle.bf_core.specs.Stages.{is_arrived, is_leaving}
use Rattle.bf_core.specs.States.{stage}
use Rattle.bf_world.specs.Worlds.{core_after}
use Rattle.bf_world.proofs.CallLemmas.{of_fields, arrived_within}
use Rattle.bf_world.proofs.world.World.leave.Goals as goal

pub stage-requires : goal.stage-requires
stage-requires g c =
    let laws = g.met.P.RankProgram.lawful c.self.inside.setup in
    let arrived = of_fields (λ s j w p. (is_arrived (stage (core_after g.P.RankProgram.meanings s j) c.args.rank) || is_leaving (stage (core_after g.P.RankProgram.meanings s j) c.args.rank)) ≡ true) _ _ _ _ _ c.self.view_is c.requires.arrived in
    arrived_within _ _ _ laws.limits laws.goods laws.stores laws.peers _ _ _ _ _ c.self.invariant _ arrived
