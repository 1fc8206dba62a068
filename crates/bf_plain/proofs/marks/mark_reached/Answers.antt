use Rattle.std.proofs.Common.{◌+◌, ◌<◌, length, sym, subst, arith}
use Rattle.std.proofs.lemmas.List.{length-map}
use Rattle.bf_case.specs.Map.{Leaf, ids_of}
use Rattle.bf_plain.proofs.MarkLemmas.{ReachedBy, ReachedBy-source, ReachedBy-other, reached_by_all}
use Rattle.bf_plain.proofs.marks.mark_reached.Goals as goal
use Rattle.bf_plain.proofs.marks.mark_reached.Goals.{then-source, else-source}

pub loop-leaf-preserved : goal.loop-leaf-preserved
loop-leaf-preserved c =
    let ids = ids_of c.args.leaves.now in
    let k = c.loop-leaf.leaf in
    let below : k < length ids = omega (arith, length-map c.args.leaves.now (λ (l : Leaf). l.0)) in
    elim c.if-source.branch [
      | then-source w ↦ subst (ReachedBy c.args.shape ids c.args.finer (k + 1) c.args.marks.now c.args.sources.now) (sym w.marks-is)
          (ReachedBy-source c.args.shape ids c.args.finer k c.args.marks.now c.args.sources.now c.loop-leaf.marks _ below w.if-source.true
          w.mark_around.ensures.marks c.loop-leaf.invariant)
      | else-source w ↦ subst (ReachedBy c.args.shape ids c.args.finer (k + 1) c.args.marks.now c.args.sources.now) (sym w.marks-is)
          (ReachedBy-other c.args.shape ids c.args.finer k c.args.marks.now c.args.sources.now c.loop-leaf.marks below w.if-source.false c.loop-leaf.invariant)
    ]

pub returns-clause-marks : goal.returns-clause-marks
returns-clause-marks c =
    let ids = ids_of c.args.leaves.now in
    reached_by_all c.args.shape ids c.args.finer c.loop-leaf.leaf c.args.marks.now c.args.sources.now c.loop-leaf.marks
    (omega (arith, length-map c.args.leaves.now (λ (l : Leaf). l.0))) c.loop-leaf.invariant
