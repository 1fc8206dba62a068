use Rattle.std.proofs.Common.{◌≡◌, ◌∙◌, refl, sym, subst}
use Rattle.bf_rank.specs.declared.stand.Stand.TheVariants as stands
use Rattle.bf_rank.specs.Steps.{MayStep, viewed}
use Rattle.bf_rank.proofs.AccountLemmas.{of_setup, opens_some, stepped}
use Rattle.bf_rank.proofs.steps.step.Goals as goal

pub returns-in-Opening : goal.returns-in-Opening
returns-in-Opening g c =
    let laws = g.met.P.RankProgram.lawful c.args.setup.now in
    let legal = of_setup _ _ c.args.setup.now _ c.requires.same c.known.ensures.legal in
    let may = subst (λ o. MayStep g.P.RankProgram.meanings g.P.RankProgram.good c.args.setup.now c.args.world.now.journal (viewed c.args.rank o c.args.epoch.now stands.Opening)) c.in-Some.is
    (subst (λ s. MayStep g.P.RankProgram.meanings g.P.RankProgram.good c.args.setup.now c.args.world.now.journal (viewed c.args.rank c.args.local.now c.args.epoch.now s)) c.in-Opening.is c.requires.may) in
    record {
      fails = λ fails. absurd (let e : stands.Opening ≡ stands.Failed = sym c.in-Opening.is ∙ fails in cc);
      setup = c.open-stand.ensures.setup;
      stepped = stepped _ _ _ _ laws _ legal _ c.args.rank _ _ _ _ c.open-stand.result c.step_to.result refl may.at.agrees.0
          (opens_some _ _ _ _ laws _ legal _ _ _ may)
          c.open-stand.ensures.ok c.open-stand.ensures.err c.step_to.ensures.ok c.step_to.ensures.err;
    }
