use Rattle.std.proofs.Common.{ap}
use Rattle.bf_block.specs.Setup.{case_of}
use Rattle.bf_block.specs.BlockFields.{block_in}
use Rattle.bf_block.proofs.BlockLemmas.{stepped_is_models}
use Rattle.bf_block.proofs.block.Block.advanced.Goals as goal

pub invariant_of-result : goal.invariant_of-result
invariant_of-result c =
    rw c.before_regrid.ensures (stepped_is_models (block_in c.self.inside) c.args.self.now _ c.args.shell.now c.kernel.new.into c.self.view_is (ap case_of c.in_ok-share.ensures)
    c.self.invariant c.requires.regridded c.requires.side c.requires.samples c.kernel.ensures.cells)

pub returns-clause-model : goal.returns-clause-model
returns-clause-model c =
    rw c.before_regrid.ensures (stepped_is_models (block_in c.self.inside) c.args.self.now _ c.args.shell.now c.kernel.new.into c.self.view_is (ap case_of c.in_ok-share.ensures)
    c.self.invariant c.requires.regridded c.requires.side c.requires.samples c.kernel.ensures.cells)
