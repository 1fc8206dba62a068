use Rattle.std.proofs.Common.{◌≡◌, ap, ◌∙◌, arith}
use Rattle.bf_core.specs.Rolls.{opening_in}
use Rattle.bf_core.proofs.RollLemmas.{opening_step, opening_counted}
use Rattle.bf_core.proofs.roll.Roll.running.Goals as goal

pub loop-rank-preserved : goal.loop-rank-preserved
loop-rank-preserved c = opening_step c.loop-rank.rank _ _ _ _ c.loop-rank.invariant c.death_of.ensures c.in_ok-push.ensures.items

pub invariant_of-result : goal.invariant_of-result
invariant_of-result c =
    let all : c.loop-rank.rank ≡ c.args.ranks = omega arith in
    opening_counted c.args.ranks c.args.dies.now c.requires _ (c.loop-rank.invariant ∙ ap (λ n. opening_in n c.args.dies.now) all)
