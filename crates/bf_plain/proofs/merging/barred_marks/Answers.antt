use Rattle.std.proofs.Common.{◌∙◌, ◌||◌, not, arith}
use Rattle.bf_case.specs.Map.{ids_of}
use Rattle.bf_plain.proofs.MergingLemmas.{written}
use Rattle.bf_plain.proofs.merging.barred_marks.Goals as goal

pub returns-clause-marks : goal.returns-clause-marks
returns-clause-marks c = λ coarser refined wishes are.
    written c.in_ok-held.held.items c.mark_reached.new.marks c.in_ok-held.held.len (omega (arith, c.deref_mut.ensures.len))
    (omega (arith, c.mark_reached.ensures.full, c.in_ok-held.ensures.full, c.requires.coarser_full))
    ∙ c.mark_reached.ensures.marks (λ i. not (coarser i) || refined i) refined
    (c.deref_mut.ensures.value ∙ c.in_ok-held.ensures.marks (ids_of c.args.leaves.now) coarser refined wishes are) are
