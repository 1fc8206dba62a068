use Rattle.std.proofs.Common.{◌∙◌}
use Rattle.bf_case.specs.Map.{ids_of}
use Rattle.bf_plain.specs.Octets.{stays_at}
use Rattle.bf_plain.proofs.MergingLemmas.{surveyed_in_order}
use Rattle.bf_plain.proofs.merging.hold_beside.Goals as goal

pub staying_marks-requires-clause-leaves : goal.staying_marks-requires-clause-leaves
staying_marks-requires-clause-leaves c = surveyed_in_order c.args.shape (ids_of c.args.leaves.now) c.args.atlas.now c.requires.surveyed

pub returns-clause-held : goal.returns-clause-held
returns-clause-held c = λ p begun.
    let ids = ids_of c.args.leaves.now in
    c.mark_reached.ensures.marks p (stays_at ids p c.args.level) begun
    (c.deref.ensures.value ∙ c.in_ok-staying.ensures.marks p begun)
