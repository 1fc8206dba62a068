use Rattle.std.proofs.Common.{ap, ◌∙◌}
use Rattle.bf_block.specs.Setup.{case_of}
use Rattle.bf_block.proofs.BlockLemmas.{initial_is_models}
use Rattle.bf_block.proofs.block.Block.initial.Goals as goal

pub invariant_of-result : goal.invariant_of-result
invariant_of-result c =
    rw c.before_regrid.ensures (initial_is_models c.args.opening.now c.case.result.now (case_of c.in_ok-share.field-0) c.args.root c.root_of.result c.in_ok-cells.cells
    (c.case.ensures.case ∙ c.setup-setup.ensures) (ap case_of c.in_ok-share.ensures ∙ c.setup-setup.ensures) c.case.ensures.runs c.requires c.root_of.ensures
    c.in_ok-cells.ensures)
