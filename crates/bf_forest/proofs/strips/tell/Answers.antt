use Rattle.std.proofs.Common.{sym, ap, ◌∙◌}
use Rattle.std.specs.Prelude.{◌==◌}
use Rattle.std.proofs.lemmas.Bool.{eq-eqb, eqb-true, false_from_ne_true}
use Rattle.bf_block.specs.Block.{leaf_of}
use Rattle.bf_forest.proofs.StripSteps.{strip_told, nothing_told, passed_by, untold}
use Rattle.bf_forest.proofs.strips.tell.Goals.{then-link-to+in_ok-strip+in-Some+in_ok-push, then-link-to+in_ok-strip+in_default, else-link-to}
use Rattle.bf_forest.proofs.strips.tell.Goals as goal

pub loop-link-preserved : goal.loop-link-preserved
loop-link-preserved c =
    elim c.if-link-to.branch [
      | then-link-to+in_ok-strip+in-Some+in_ok-push w ↦
          strip_told c.args.linked.now.block.case.roots c.args.to (leaf_of c.args.linked.now.block) c.as_slice-link-items.result.now c.loop-link.link-index c.link-item.result c.loop-link-test.true c.link-item.is
          c.args.strips.now.items c.loop-link.strips.items c.if-link-to.strips.items c.loop-link.invariant
          w.in-Some.strip (eq-eqb c.link-item.result.owner c.args.to w.if-link-to.true) (sym w.in_ok-strip.ensures ∙ w.in-Some.is) (ap (λ v. v.items) w.strips-is ∙ w.in_ok-push.ensures.items)
      | then-link-to+in_ok-strip+in_default w ↦
          nothing_told c.args.linked.now.block.case.roots c.args.to (leaf_of c.args.linked.now.block) c.as_slice-link-items.result.now c.loop-link.link-index c.link-item.result c.loop-link-test.true c.link-item.is
          c.args.strips.now.items c.loop-link.strips.items c.if-link-to.strips.items c.loop-link.invariant
          (eq-eqb c.link-item.result.owner c.args.to w.if-link-to.true) (sym w.in_ok-strip.ensures ∙ w.in_default.is) (ap (λ v. v.items) w.strips-is)
      | else-link-to w ↦
          passed_by c.args.linked.now.block.case.roots c.args.to (leaf_of c.args.linked.now.block) c.as_slice-link-items.result.now c.loop-link.link-index c.link-item.result c.loop-link-test.true c.link-item.is
          c.args.strips.now.items c.loop-link.strips.items c.if-link-to.strips.items c.loop-link.invariant
          (false_from_ne_true (c.link-item.result.owner == c.args.to) (λ t. w.if-link-to.false (eqb-true c.link-item.result.owner c.args.to t))) (ap (λ v. v.items) w.strips-is)
    ]

pub returns-then-not-has_owner : goal.returns-then-not-has_owner
returns-then-not-has_owner c =
    untold c.args.to c.args.linked.now c.args.strips.now.items (sym c.has_owner.ensures ∙ c.if-not-has_owner.true)
