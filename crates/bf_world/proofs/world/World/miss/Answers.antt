use Rattle.std.proofs.Common.{◌≡◌, true, [], rules}
use Rattle.bf_core.specs.declared.event.Event.TheVariants.{Arrive}
use Rattle.bf_core.specs.declared.event.How.TheVariants.{Broken}
use Rattle.bf_world.specs.Queues.{messages}
use Rattle.bf_world.specs.Runs.{is_legal_in, run_after}
use Rattle.bf_world.specs.Worlds.{ReceivesNext}
use Rattle.bf_world.proofs.CallLemmas.{of_fields, as_seen, breaks_legal}
use Rattle.bf_world.proofs.world.World.miss.Goals as goal

pub break_off-requires : goal.break_off-requires
break_off-requires g c =
    let laws = g.met.P.RankProgram.lawful c.self.inside.setup in
    let receives = of_fields (λ s j w p. ReceivesNext g.P.RankProgram.meanings s j c.args.rank c.args.peer) _ _ _ _ _ c.self.view_is c.requires.next in
    let none = of_fields (λ s j w p. messages w c.args.peer c.args.rank ≡ []) _ _ _ _ _ c.self.view_is c.requires.none in
    as_seen (λ s j w p. is_legal_in g.P.RankProgram.meanings s (run_after g.P.RankProgram.meanings s j) (Arrive c.args.rank Broken) ≡ true) _ _ _ _ _ c.self.view_is
    (breaks_legal _ _ _ laws.limits laws.goods laws.stores laws.peers _ _ _ _ _ c.self.invariant c.args.rank c.args.peer receives none (search rules))
