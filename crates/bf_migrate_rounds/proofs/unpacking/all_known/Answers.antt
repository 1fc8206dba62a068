use Rattle.std.proofs.Common.{◌≡◌, inl, inr, arith, ap, subst, ◌∙◌, get_or}
use Rattle.std.proofs.lemmas.Bool.{cases_lt}
use Rattle.std.proofs.lemmas.List.{get_or_default}
use Rattle.bf_block.specs.Block.{IsModels}
use Rattle.bf_migrate_rounds.proofs.unpacking.all_known.Goals as goal

pub loop-block-preserved : goal.loop-block-preserved
loop-block-preserved c = λ k d within.
    let blocks = c.args.blocks.now in
    let last = c.loop-block.block-index in
    elim (cases_lt k last) [
      | inl before ↦ c.loop-block.invariant k d before
      | inr past ↦
          let same : last ≡ k = omega arith in
          subst IsModels (c.block-item.is ∙ get_or_default blocks last c.block-item.result d (omega arith) ∙ ap (λ n. get_or blocks n d) same) c.cells-model.ensures.model
    ]
