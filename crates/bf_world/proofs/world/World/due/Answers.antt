use Rattle.std.proofs.Common.{◌<◌, arith}
use Rattle.bf_world.proofs.WorldLemmas.{its_ranks}
use Rattle.bf_world.proofs.CallLemmas.{of_fields}
use Rattle.bf_world.proofs.world.World.due.Goals as goal

pub is_due-requires : goal.is_due-requires
is_due-requires g c =
    let laws = g.met.P.RankProgram.lawful c.self.inside.setup in
    let below = of_fields (λ s j w p. c.args.rank < g.P.RankProgram.meanings.ranks s) _ _ _ _ _ c.self.view_is c.requires in
    omega (arith, its_ranks _ _ _ laws.limits laws.goods laws.stores laws.peers _ _ _ _ _ c.self.invariant, below)
