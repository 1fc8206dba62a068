use Rattle.std.proofs.Common.{◌≡◌, ◌<◌, ℕ, ◌∙◌, ◌++◌, ◌∷◌, [], ap, subst, get_or, arith}
use Rattle.std.proofs.Math.ListN.{set}
use Rattle.bf_id.specs.Id.{root_id}
use Rattle.bf_case.specs.Case.{first_rank_of}
use Rattle.bf_msg.specs.declared.linked_block.LinkedBlock.{LinkedBlock}
use Rattle.bf_forest.specs.ModelBlocks.{linked_at, first_home}
use Rattle.bf_forest.specs.Setup.{case_of}
use Rattle.bf_forest.proofs.OpeningSteps.{none_dealt, one_dealt, parts_below, parts_whole}
use Rattle.bf_forest.proofs.opening.first_parts.Goals as goal

pub loop-root-init : goal.loop-root-init
loop-root-init c =
    let case = case_of c.args.setup.now in
    c.in_ok-parts.ensures ∙ none_dealt (λ root. linked_at case 0 (first_home case) (root_id root)) (first_rank_of case) case.ranks

pub loop-root-preserved : goal.loop-root-preserved
loop-root-preserved c =
    let case = case_of c.args.setup.now in
    let root = c.loop-root.root in
    let parts = c.loop-root.parts.items in
    let old = c.index_mut.result.now in
    let at = c.root_rank.ensures.value in
    ap (λ (rank : ℕ). set parts rank c.add.new.blocks) at
    ∙ one_dealt (λ root. linked_at case 0 (first_home case) (root_id root)) (first_rank_of case) case.ranks root parts old c.add.new.blocks (subst (λ (rank : ℕ). rank < case.ranks) at c.root_rank.ensures.below)
    c.loop-root.invariant (subst (λ (rank : ℕ). old ≡ get_or parts rank old) at c.index_mut.ensures.value)
    (c.in_ok-add.ensures ∙ ap (λ (b : LinkedBlock). old ++ b ∷ []) c.in_ok-block.ensures)

pub returns : goal.returns
returns c =
    let end : c.loop-root.root ≡ c.root_count-root-end.result = omega (arith, c.loop-root.auto.root-end, c.loop-root-test.false) in
    c.loop-root.invariant ∙ ap (parts_below (case_of c.args.setup.now)) (end ∙ c.root_count-root-end.ensures.value) ∙ parts_whole (case_of c.args.setup.now)
