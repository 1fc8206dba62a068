use Rattle.std.proofs.Common.{◌≡◌, ◌+◌, ◌∙◌, ap}
use Rattle.bf_block.specs.declared.point.Point.{Point}
use Rattle.bf_block.specs.Block.{BlockValue, before_regrid}
use Rattle.bf_forest.specs.Setup.{case_of, every_setup_is_valid}
use Rattle.bf_forest.specs.StepLaws.{kept_is, next_is}
use Rattle.bf_forest.proofs.step.stepped.Goals as goal

pub regridded-requires : goal.regridded-requires
regridded-requires c =
    kept_is (case_of c.args.setup.now) c.requires.block.0 (every_setup_is_valid c.args.setup.now) c.args.linked.block c.requires.block.1.is

pub returns-in-Ok-clause-block : goal.returns-in-Ok-clause-block
returns-in-Ok-clause-block c =
    let time = c.requires.block.0 in
    let between = c.requires.block.1 in
    let kept = c.regridded.ensures in
    let point : c.in-Ok.block.point ≡ before_regrid (time + 1) =
    c.in-Ok.ensures.point ∙ ap (λ (b : BlockValue). before_regrid (b.point.time + 1)) kept ∙ ap (λ (p : Point). before_regrid (p.time + 1)) between.is.at in
    ap (λ (b : BlockValue). record { block = b; links = c.args.linked.links })
    (next_is (case_of c.args.setup.now) time (every_setup_is_valid c.args.setup.now) c.args.linked.block c.in-Ok.block c.args.strips.now between.is between.told
    (c.in-Ok.ensures.id ∙ ap (λ (b : BlockValue). b.id) kept) point (c.in-Ok.ensures.case ∙ ap (λ (b : BlockValue). b.case) kept ∙ between.is.of_case) c.cells-model.ensures.model)
