use Rattle.std.proofs.Common.{sym, ap, ◌∙◌}
use Rattle.std.specs.Prelude.{◌==◌, not, filter}
use Rattle.bf_forest.specs.Setup.{case_of}
use Rattle.bf_forest.proofs.StartSteps.{laid_stays, laid_goes}
use Rattle.bf_forest.proofs.start.laid.Goals as goal
use Rattle.bf_forest.proofs.start.laid.Goals.{then-not-has_root, else-not-has_root}

pub loop-rank-preserved : goal.loop-rank-preserved
loop-rank-preserved c =
    let case = case_of c.args.setup.now in
    let rank = c.loop-rank.rank in
    elim c.if-not-has_root.branch [
      | then-not-has_root w ↦
          w.laid-is ∙ w.without-laid.ensures ∙ ap (filter (λ member. not (member == rank))) c.loop-rank.invariant
          ∙ laid_goes case rank (sym c.has_root.ensures ∙ w.if-not-has_root.true)
      | else-not-has_root w ↦
          w.laid-is ∙ c.loop-rank.invariant ∙ laid_stays case rank (sym c.has_root.ensures ∙ w.if-not-has_root.false)
    ]
