use Rattle.std.proofs.Common.{◌≡◌, List, [], ◌+◌, false, subst, sym, ◌∙◌, refl}
use Rattle.bf_core.specs.declared.event.Event.{Event}
use Rattle.bf_core.specs.States.{is_finished}
use Rattle.bf_world.specs.Runs.{run_after}
use Rattle.bf_drive.specs.Drives.{AreAt, Leads, Turns}
use Rattle.bf_drive.proofs.LeadLemmas.{none_failed}
use Rattle.bf_drive.proofs.TurnsLemmas.{passes_step}
use Rattle.bf_drive.proofs.driver.drive_all.Goals as goal

pub loop-alloc-init : goal.loop-alloc-init
loop-alloc-init g c =
    let setup = c.args.setup.now in
    let m = g.P.RankProgram.meanings in
    let P : List Event → Type 0 = λ j. Leads (Turns m g.P.RankProgram.good setup c.args.order.now) j c.turns.new.world.journal c.args.ranks.now c.turns.new.ranks in
    let Q : List Event → Type 0 = λ j. AreAt m g.P.RankProgram.good setup j c.args.ranks.now in
    let led = subst P c.requires.fresh c.turns.ensures.turns [] (none_failed m g.P.RankProgram.good setup c.args.ranks.now (subst Q c.requires.fresh c.requires.at)) in (
      c.turns.ensures.setup ∙ c.requires.same,
      (
        c.turns.ensures.at,
        (led.0, (led.1.0, (record { journal = c.turns.new.world.journal; failed = led.0 }, (led.1.1, (0, refl))))),
      ),
    )

pub loop-alloc-preserved : goal.loop-alloc-preserved
loop-alloc-preserved g c =
    let setup = c.args.setup.now in
    let m = g.P.RankProgram.meanings in
    let before = c.loop-alloc.invariant.1.1 in
    let driven = before.1.1 in
    let led = c.pass.ensures.turns before.0 before.1.0 in (
      c.pass.ensures.setup ∙ c.loop-alloc.invariant.0,
      (
        c.pass.ensures.at,
        (
          led.0,
          (
            led.1.0,
            (
              driven.0,
              (
                driven.1.0,
                (
                  driven.1.1.0 + 1,
                  passes_step m g.P.RankProgram.good setup driven.1.1.0 driven.0 (record { journal = c.loop-alloc.world.journal; failed = before.0 })
                      (record { journal = c.pass.new.world.journal; failed = led.0 }) driven.1.1.1 led.1.1,
                ),
              ),
            ),
          ),
        ),
      ),
    )

pub loop-alloc-smaller : goal.loop-alloc-smaller
loop-alloc-smaller g c =
    let m = g.P.RankProgram.meanings in
    let J : g.row.P-Setup.Denot → Type 0 = λ s. is_finished (run_after m s c.loop-alloc.world.journal).core ≡ false in
    c.pass.ensures.less (subst J c.loop-alloc.invariant.0 (sym c.finished.ensures ∙ c.loop-alloc-test.true))
