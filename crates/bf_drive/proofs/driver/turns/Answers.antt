use Rattle.std.proofs.Common.{◌≡◌, ℕ, List, refl, subst, arith, ◌∙◌, ◌+◌, take}
use Rattle.bf_drive.specs.Drives.{Leads, Turned, Turns}
use Rattle.std.proofs.lemmas.List.{take_all}
use Rattle.bf_drive.proofs.TurnsLemmas.{turns_step, leads_then}
use Rattle.bf_drive.proofs.LighterLemmas.{lighter_same, lighter_then}
use Rattle.bf_drive.proofs.driver.turns.Goals as goal

pub loop-rank-init : goal.loop-rank-init
loop-rank-init g c =
    (refl, (c.requires.at, ((λ failed are. (failed, (are, refl))), lighter_same g.P.RankProgram.meanings c.args.setup.now c.args.world.now.journal c.args.world.now.journal refl)))

pub loop-rank-preserved : goal.loop-rank-preserved
loop-rank-preserved g c =
    let setup = c.args.setup.now in
    let m = g.P.RankProgram.meanings in
    let before = c.loop-rank.invariant in (
      c.turn.ensures.setup ∙ before.0,
      (
        c.turn.ensures.at,
        (
          leads_then (Turns m g.P.RankProgram.good setup (take c.loop-rank.rank-index c.args.order.now)) (Turned m g.P.RankProgram.good setup _)
              (Turns m g.P.RankProgram.good setup (take (c.loop-rank.rank-index + 1) c.args.order.now))
              c.args.world.now.journal c.loop-rank.world.journal c.turn.new.world.journal c.args.ranks.now c.loop-rank.ranks c.turn.new.ranks
              (λ old mid new. turns_step m g.P.RankProgram.good setup c.args.order.now c.loop-rank.rank-index _ old mid new c.loop-rank-test.true)
              before.1.1.0 c.turn.ensures.turned,
          lighter_then m setup c.args.world.now.journal c.loop-rank.world.journal c.turn.new.world.journal before.1.1.1 c.turn.ensures.lighter,
        ),
      ),
    )

pub returns-clause-turns : goal.returns-clause-turns
returns-clause-turns g c =
    let setup = c.args.setup.now in
    let m = g.P.RankProgram.meanings in
    let whole : take c.loop-rank.rank-index c.args.order.now ≡ c.args.order.now = take_all c.loop-rank.rank-index c.args.order.now (omega (arith, c.loop-rank-test.false)) in
    let P : List ℕ → Type 0 = λ order. Leads (Turns m g.P.RankProgram.good setup order) c.args.world.now.journal c.loop-rank.world.journal c.args.ranks.now c.loop-rank.ranks in
    subst P whole c.loop-rank.invariant.1.1.0
