use Rattle.bf_rank.specs.Ranks.{sight}
use Rattle.bf_world.specs.Runs.{run_after}
use Rattle.bf_rank.proofs.AccountLemmas.{of_setup, opens, opened, opens_sending}
use Rattle.bf_rank.proofs.steps.open.Goals as goal

pub pass_rounds-requires : goal.pass_rounds-requires
pass_rounds-requires g c =
    let laws = g.met.P.RankProgram.lawful c.args.setup.now in
    let legal = of_setup _ _ c.args.setup.now _ c.requires.same c.known.ensures.legal in
    (sight (run_after g.P.RankProgram.meanings c.args.setup.now c.args.world.now.journal) c.args.rank, (c.args.rank, opens _ _ _ _ laws _ legal _ _ _ c.requires.may))

pub give-requires-clause-may : goal.give-requires-clause-may
give-requires-clause-may g c =
    let laws = g.met.P.RankProgram.lawful c.args.setup.now in
    let legal = of_setup _ _ c.args.setup.now _ c.requires.same c.known.ensures.legal in
    opened _ _ _ _ laws _ legal _ _ _ _ _ c.requires.may (c.in_ok-place.ensures _ _ (opens _ _ _ _ laws _ legal _ _ _ c.requires.may))

pub give-requires-clause-rounds : goal.give-requires-clause-rounds
give-requires-clause-rounds g c =
    let laws = g.met.P.RankProgram.lawful c.args.setup.now in
    let legal = of_setup _ _ c.args.setup.now _ c.requires.same c.known.ensures.legal in
    opens_sending _ _ _ _ laws _ legal _ _ _ (c.in_ok-place.ensures _ _ (opens _ _ _ _ laws _ legal _ _ _ c.requires.may))
