use Rattle.std.proofs.Common.{◌≡◌, ◌∙◌, ap, map, arith}
use Rattle.std.specs.List.{range_with_len}
use Rattle.bf_case.specs.Case.{first_rank_of}
use Rattle.bf_forest.specs.Opening.{first_owners}
use Rattle.bf_forest.specs.Setup.{case_of}
use Rattle.bf_block.proofs.BlockLemmas.{pushed_more}
use Rattle.bf_forest.proofs.opening.first_owners.Goals as goal

pub loop-root-preserved : goal.loop-root-preserved
loop-root-preserved c =
    c.in_ok-push.ensures.items
    ∙ pushed_more (first_rank_of (case_of c.args.setup.now)) c.loop-root.root c.loop-root.owners.items _ c.loop-root.invariant c.root_rank.ensures.value

pub returns : goal.returns
unfolding first_owners
returns c =
    let end : c.loop-root.root ≡ c.root_count-count.result = omega (arith, c.loop-root.auto, c.loop-root-test.false) in
    c.loop-root.invariant ∙ ap (λ n. map (first_rank_of (case_of c.args.setup.now)) (range_with_len 0 n)) (end ∙ c.root_count-count.ensures.value)
