use Rattle.std.proofs.Common.{sym, subst, rules}
use Rattle.bf_world.specs.declared.answers.Arrival.TheVariants as arrivals
use Rattle.bf_world.specs.Worlds.{ArrivesAs}
use Rattle.bf_world.proofs.WorldLemmas.{where_ok}
use Rattle.bf_rank.proofs.AccountLemmas.{of_setup, at_place, arrives_as, has_done}
use Rattle.bf_rank.proofs.giving.arrive_done.Goals as goal

pub arrive-requires-clause-its : goal.arrive-requires-clause-its
arrive-requires-clause-its g c =
    let laws = g.met.P.RankProgram.lawful c.args.setup.now in
    let legal = of_setup _ _ c.args.setup.now _ c.requires.same c.known.ensures.legal in
    subst (λ s. ArrivesAs g.P.RankProgram.meanings s c.args.world.now.journal c.args.rank (arrivals.Done c.filled-filled.result c.give_parcel-parcel.result)) (sym c.requires.same)
    (arrives_as _ _ _ _ laws _ legal _ _ _ _ _ _ (at_place _ _ _ _ laws _ legal _ _ _ _ c.requires.may) c.give_parcel-parcel.ensures c.filled-filled.ensures)

pub returns-clause-ok : goal.returns-clause-ok
returns-clause-ok g c =
    let laws = g.met.P.RankProgram.lawful c.args.setup.now in
    let legal = of_setup _ _ c.args.setup.now _ c.requires.same c.known.ensures.legal in
    has_done _ _ _ _ laws _ legal _ _ _ _ _ c.filled-filled.result (at_place _ _ _ _ laws _ legal _ _ _ _ c.requires.may) c.give_parcel-parcel.ensures
    _ (where_ok c.arrive.result (search rules) c.arrive.ensures.journal)
