use Rattle.std.proofs.Common.{ap}
use Rattle.bf_block.specs.Setup.{case_of}
use Rattle.bf_block.specs.BlockFields.{block_in}
use Rattle.bf_block.proofs.BlockLemmas.{child_is_models, child_shallow}
use Rattle.bf_block.proofs.block.Block.child.Goals as goal

pub child-requires-clause-shallow : goal.child-requires-clause-shallow
child-requires-clause-shallow c = child_shallow (block_in c.self.inside) c.args.self.now c.self.view_is c.self.invariant c.requires.refined

pub invariant_of-result : goal.invariant_of-result
invariant_of-result c =
    rw (c.after_regrid.ensures, c.child.ensures) (child_is_models (block_in c.self.inside) c.args.self.now (case_of c.in_ok-share.field-0) c.args.octant
    c.in_ok-octant_copy.field-0 c.self.view_is (ap case_of c.in_ok-share.ensures) c.self.invariant c.requires.refined c.requires.octal
    c.in_ok-octant_copy.ensures.cells)
