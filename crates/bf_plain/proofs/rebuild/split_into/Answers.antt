use Rattle.std.proofs.Common.{◌∙◌, arith}
use Rattle.bf_plain.proofs.RebuildSteps.{one_octant_more, all_octants}
use Rattle.bf_plain.proofs.rebuild.split_into.Goals as goal

pub loop-octant-preserved : goal.loop-octant-preserved
loop-octant-preserved c =
    c.in_ok-push.ensures.items
    ∙ one_octant_more (c.args.id, c.args.cells.now) c.args.new.now.items c.loop-octant.new.items c.loop-octant.octant _ _
    c.loop-octant.invariant c.child.ensures c.in_ok-octant_copy.ensures.cells

pub returns : goal.returns
returns c =
    all_octants (c.args.id, c.args.cells.now) c.args.new.now.items c.loop-octant.new.items c.loop-octant.octant c.loop-octant.invariant (omega arith)
