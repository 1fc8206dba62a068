use Rattle.std.proofs.Common.{List, ◌+◌, length, sym, subst, ap, ◌∙◌, arith}
use Rattle.std.proofs.lemmas.List.{length-map}
use Rattle.bf_case.specs.declared.target.Target.{Target}
use Rattle.bf_plain.proofs.MergingLemmas.{all_taken}
use Rattle.bf_plain.proofs.TargetLemmas.{ToldBelow, ToldBelow-more, target_by}
use Rattle.bf_plain.proofs.targets.told.Goals as goal

pub loop-leaf-preserved : goal.loop-leaf-preserved
loop-leaf-preserved c =
    let k = c.loop-leaf.leaf in
    subst (ToldBelow c.args.refined.now c.args.merging.now (k + 1)) (sym {A = List Target} c.in_ok-push.ensures.items)
    (ToldBelow-more c.args.refined.now c.args.merging.now c.loop-leaf.targets.items k c.target.result c.loop-leaf-test.true c.target.ensures c.loop-leaf.invariant)

pub returns : goal.returns
returns c = λ ids p q from from'.
    c.loop-leaf.invariant ids p q from from' ∙ all_taken (λ i. target_by (p i) (q i)) ids c.loop-leaf.leaf (omega (arith, ap length from, length-map ids p))
