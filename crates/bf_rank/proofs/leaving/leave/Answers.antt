use Rattle.std.proofs.Common.{◌≡◌, ◌||◌, true, refl, sym, subst}
use Rattle.bf_core.specs.Stages.{is_arrived, is_leaving}
use Rattle.bf_core.specs.States.{stage}
use Rattle.bf_world.specs.Runs.{run_after}
use Rattle.bf_world.specs.Worlds.{core_after, HasLeft}
use Rattle.bf_rank.specs.Ranks.{sight}
use Rattle.bf_rank.proofs.AccountLemmas.{of_setup, may_leave, is_beginning, has_ended, has_begun}
use Rattle.bf_rank.proofs.leaving.leave.Goals as goal

pub leave-requires-clause-arrived : goal.leave-requires-clause-arrived
leave-requires-clause-arrived g c =
    let laws = g.met.P.RankProgram.lawful c.args.setup.now in
    let legal = of_setup _ _ c.args.setup.now _ c.requires.same c.known.ensures.legal in
    subst (λ s. (is_arrived (stage (core_after g.P.RankProgram.meanings s c.args.world.now.journal) c.args.rank) || is_leaving (stage (core_after g.P.RankProgram.meanings s c.args.world.now.journal) c.args.rank)) ≡ true)
    (sym c.requires.same) (may_leave _ _ _ _ laws _ legal _ c.requires.may refl)

pub begin-stand-requires : goal.begin-stand-requires
begin-stand-requires g c =
    let laws = g.met.P.RankProgram.lawful c.args.setup.now in
    let legal = of_setup _ _ c.args.setup.now _ c.requires.same c.known.ensures.legal in
    let has = subst (λ q. HasLeft g.P.RankProgram.meanings c.args.setup.now c.args.world.now c.leave.new.self c.args.rank q) c.in-Run.is
    (subst (λ s. HasLeft g.P.RankProgram.meanings s c.args.world.now c.leave.new.self c.args.rank c.leave.result) c.requires.same c.leave.ensures.left) in (
      sight (run_after g.P.RankProgram.meanings c.args.setup.now c.args.world.now.journal) c.args.rank,
      is_beginning _ _ _ _ laws _ legal _ c.requires.may refl _ _ has.0 has.1.0 has.1.1.0 c.in-Some.is,
    )

pub returns-in-Ended-clause-stepped : goal.returns-in-Ended-clause-stepped
returns-in-Ended-clause-stepped g c =
    let laws = g.met.P.RankProgram.lawful c.args.setup.now in
    let legal = of_setup _ _ c.args.setup.now _ c.requires.same c.known.ensures.legal in
    let has = subst (λ q. HasLeft g.P.RankProgram.meanings c.args.setup.now c.args.world.now c.leave.new.self c.args.rank q) c.in-Ended.is
    (subst (λ s. HasLeft g.P.RankProgram.meanings s c.args.world.now c.leave.new.self c.args.rank c.leave.result) c.requires.same c.leave.ensures.left) in
    has_ended _ _ _ _ laws _ legal _ c.requires.may refl _ _ _ refl refl has.0 has.1.0 has.1.1

pub returns-in-Some-clause-stepped : goal.returns-in-Some-clause-stepped
returns-in-Some-clause-stepped g c =
    let laws = g.met.P.RankProgram.lawful c.args.setup.now in
    let legal = of_setup _ _ c.args.setup.now _ c.requires.same c.known.ensures.legal in
    let has = subst (λ q. HasLeft g.P.RankProgram.meanings c.args.setup.now c.args.world.now c.leave.new.self c.args.rank q) c.in-Run.is
    (subst (λ s. HasLeft g.P.RankProgram.meanings s c.args.world.now c.leave.new.self c.args.rank c.leave.result) c.requires.same c.leave.ensures.left) in
    has_begun _ _ _ _ laws _ legal _ c.requires.may refl _ _ _ c.begin-stand.result has.0 has.1.0 has.1.1.0 has.1.1.1
    (c.begin-stand.ensures _ (is_beginning _ _ _ _ laws _ legal _ c.requires.may refl _ _ has.0 has.1.0 has.1.1.0 c.in-Some.is))
