use Rattle.std.proofs.Common.{◌∙◌, refl, sym}
use Rattle.bf_rank.proofs.AccountLemmas.{of_setup, at_place, gives_some, stepped}
use Rattle.bf_rank.proofs.steps.go_on.Goals as goal

pub returns-clause-stepped : goal.returns-clause-stepped
returns-clause-stepped g c =
    let laws = g.met.P.RankProgram.lawful c.args.setup.now in
    let legal = of_setup _ _ c.args.setup.now _ c.requires.same c.known.ensures.legal in
    let at = at_place _ _ _ _ laws _ legal _ _ _ _ c.requires.may in
    stepped _ _ _ _ laws _ legal _ c.args.rank _ _ _ _ c.give-stand.result c.step_to.result refl at.runs
    (gives_some _ _ _ _ laws _ legal _ _ _ _ at (sym c.next_receive.ensures ∙ c.in_default.is))
    c.give-stand.ensures.ok c.give-stand.ensures.err c.step_to.ensures.ok c.step_to.ensures.err
