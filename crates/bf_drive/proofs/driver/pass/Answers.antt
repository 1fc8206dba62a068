use Rattle.std.proofs.Common.{refl, ◌+◌, ◌≡◌, ℕ, ◌∙◌, true, sym, subst, zero-add, arith}
use Rattle.std.specs.List.{range_with_len}
use Rattle.bf_world.specs.Messages.{AreQueuesOf}
use Rattle.bf_world.specs.Runs.{is_journal, run_after}
use Rattle.bf_drive.specs.Drives.{Leads, Turned, Turns}
use Rattle.bf_drive.proofs.TurnsLemmas.{pass_step, leads_then}
use Rattle.bf_drive.proofs.LeadLemmas.{some_failed}
use Rattle.bf_drive.proofs.LighterLemmas.{lighter_same, lighter_then, pass_lightens}
use Rattle.bf_drive.proofs.driver.pass.Goals as goal

pub loop-rank-init : goal.loop-rank-init
loop-rank-init g c =
    (refl, (c.requires.at, ((λ failed are. (failed, (are, refl))), lighter_same g.P.RankProgram.meanings c.args.setup.now c.args.world.now.journal c.args.world.now.journal refl)))

pub loop-rank-preserved : goal.loop-rank-preserved
loop-rank-preserved g c =
    let setup = c.args.setup.now in
    let m = g.P.RankProgram.meanings in
    let before = c.loop-rank.invariant in (
      c.turn.ensures.setup ∙ before.0,
      (
        c.turn.ensures.at,
        (
          leads_then (Turns m g.P.RankProgram.good setup (range_with_len 0 c.loop-rank.rank)) (Turned m g.P.RankProgram.good setup c.loop-rank.rank)
              (Turns m g.P.RankProgram.good setup (range_with_len 0 (c.loop-rank.rank + 1)))
              c.args.world.now.journal c.loop-rank.world.journal c.turn.new.world.journal c.args.ranks.now c.loop-rank.ranks c.turn.new.ranks
              (λ old mid new so_far turned.
              let P : ℕ → Type 0 = λ r. Turned m g.P.RankProgram.good setup r mid new in
              pass_step m g.P.RankProgram.good setup 0 c.loop-rank.rank old mid new so_far (subst P (sym (zero-add c.loop-rank.rank)) turned))
              before.1.1.0 c.turn.ensures.turned,
          lighter_then m setup c.args.world.now.journal c.loop-rank.world.journal c.turn.new.world.journal before.1.1.1 c.turn.ensures.lighter,
        ),
      ),
    )

pub returns-clause-turns : goal.returns-clause-turns
returns-clause-turns g c =
    let setup = c.args.setup.now in
    let m = g.P.RankProgram.meanings in
    let whole : c.loop-rank.rank ≡ m.ranks setup = omega (arith, c.loop-rank-test.false, c.loop-rank.auto.rank-end, c.ranks-rank-end.ensures) in
    let P : ℕ → Type 0 = λ n. Leads (Turns m g.P.RankProgram.good setup (range_with_len 0 n)) c.args.world.now.journal c.loop-rank.world.journal c.args.ranks.now c.loop-rank.ranks in
    subst P whole c.loop-rank.invariant.1.1.0

pub returns-clause-less : goal.returns-clause-less
returns-clause-less g c = λ unfinished.
    let setup = c.args.setup.now in
    let laws = g.met.P.RankProgram.lawful setup in
    let m = g.P.RankProgram.meanings in
    let whole : c.loop-rank.rank ≡ m.ranks setup = omega (arith, c.loop-rank-test.false, c.loop-rank.auto.rank-end, c.ranks-rank-end.ensures) in
    let J : g.row.P-Setup.Denot → Type 0 = λ s. is_journal m s c.args.world.now.journal ≡ true in
    let Q : g.row.P-Setup.Denot → Type 0 = λ s. AreQueuesOf m s (run_after m s c.args.world.now.journal) c.args.world.now.waiting in
    let some = some_failed c.args.ranks.now in
    let P : ℕ → Type 0 = λ n. Leads (Turns m g.P.RankProgram.good setup (range_with_len 0 n)) c.args.world.now.journal c.loop-rank.world.journal c.args.ranks.now c.loop-rank.ranks in
    let led = subst P whole c.loop-rank.invariant.1.1.0 some.0 some.1 in
    pass_lightens m g.P.RankProgram.good setup laws.limits laws.goods laws.stores laws.peers (record { journal = c.args.world.now.journal; failed = some.0 })
    (record { journal = c.loop-rank.world.journal; failed = led.0 }) c.args.world.now.waiting
    (subst J c.requires.same c.known.ensures.legal) (subst Q c.requires.same c.known.ensures.queues) unfinished led.1.1 c.loop-rank.invariant.1.1.1
