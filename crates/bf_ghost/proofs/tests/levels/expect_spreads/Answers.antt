use Rattle.std.proofs.Common.{◌∙◌, ◌≤◌, All, ap, arith, subst}
use Rattle.std.proofs.lemmas.List.{take_all}
use Rattle.std.proofs.lemmas.List.Elements.{All-more}
use Rattle.bf_cells.specs.Grid.{spread_of}
use Rattle.bf_block.specs.Block.{BlockValue}
use Rattle.bf_ghost.proofs.tests.levels.expect_spreads.Goals as goal

pub loop-block-preserved : goal.loop-block-preserved
loop-block-preserved g c =
    let near : c.spread.result ≤ c.args.limit = omega arith in
    All-more (λ (b : BlockValue). spread_of b.cells ≤ c.args.limit) c.args.blocks.now c.loop-block.block-index c.block-item.result (omega arith) c.loop-block.invariant
    (subst (λ (b : BlockValue). spread_of b.cells ≤ c.args.limit) c.block-item.is
    (subst (λ n. n ≤ c.args.limit) (c.spread.ensures ∙ ap spread_of c.cells.ensures.cells) near))

pub returns : goal.returns
returns g c =
    subst (All (λ (b : BlockValue). spread_of b.cells ≤ c.args.limit)) (take_all c.loop-block.block-index c.args.blocks.now (omega arith)) c.loop-block.invariant
