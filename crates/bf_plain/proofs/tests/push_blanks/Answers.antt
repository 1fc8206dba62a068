use Rattle.std.proofs.Common.{◌∙◌, arith}
use Rattle.bf_plain.proofs.BlankLeaves.{no_blanks, one_blank_more, all_blanks}
use Rattle.bf_plain.proofs.tests.push_blanks.Goals as goal

pub loop-octant-init : goal.loop-octant-init
loop-octant-init c = no_blanks c.args.parent c.args.from c.args.leaves.now.items

pub loop-octant-preserved : goal.loop-octant-preserved
loop-octant-preserved c =
    c.in_ok-push.ensures.items
    ∙ one_blank_more c.args.parent c.args.from c.loop-octant.octant c.args.leaves.now.items c.loop-octant.leaves.items _ _ (omega arith)
    c.loop-octant.invariant c.child.ensures c.in_ok-filled.ensures.cells

pub returns : goal.returns
returns c =
    all_blanks c.args.parent c.args.from c.loop-octant.octant c.args.end c.args.leaves.now.items c.loop-octant.leaves.items (omega arith) c.loop-octant.invariant
