use Rattle.std.proofs.Common.{length, refl, ap, ◌∙◌, arith}
use Rattle.bf_case.specs.Stencil.{stencil}
use Rattle.bf_plain.proofs.RunLemmas.{items_written, ready_after_step}
use Rattle.bf_plain.proofs.run.Run.step.Goals as goal

pub returns-clause-ready : goal.returns-clause-ready
returns-clause-ready c =
    let run = c.args.self.now in
    let case = c.args.case.now in
    ready_after_step case run _ c.requires.ready
    (items_written run.leaves c.step.new.leaves (omega (arith, c.step.auto.leaves, c.as_mut_slice.ensures.len, run.leaves.ok.0))
    ∙ c.step.ensures.leaves ∙ ap (stencil case.roots case.side) c.as_mut_slice.ensures.value)
    refl c.step.ensures.side c.step.ensures.scratch_side
    (ap length (items_written run.fresh c.step.new.fresh (omega (arith, c.step.auto.fresh, c.as_mut_slice-2.ensures.len, run.fresh.ok.0)))
    ∙ c.step.ensures.room ∙ ap length c.as_mut_slice-2.ensures.value)
