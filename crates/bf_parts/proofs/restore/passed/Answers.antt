use Rattle.std.proofs.Common.{sym, ◌∙◌, ap}
use Rattle.std.proofs.lemmas.List.{take_all}
use Rattle.bf_parts.proofs.MergeSteps.{passed_end, passed_here}
use Rattle.bf_parts.proofs.restore.passed.Goals as goal

pub returns-then-comes_first-clause-passed : goal.returns-then-comes_first-clause-passed
returns-then-comes_first-clause-passed g c =
    passed_here (λ other. g.T.Linked.kind.first c.args.item.now other) c.args.others.now c.loop-place.place c.index-others-place.result c.loop-place-test.true c.loop-place.invariant
    (ap (λ other. g.T.Linked.kind.first c.args.item.now other) (sym c.index-others-place.is) ∙ sym (c.if-comes_first.ensures {u = tt}))

pub returns-clause-passed : goal.returns-clause-passed
returns-clause-passed g c =
    passed_end (λ other. g.T.Linked.kind.first c.args.item.now other) c.args.others.now
    (rw (take_all c.loop-place.place c.args.others.now c.loop-place-test.false) at c.loop-place.invariant)
