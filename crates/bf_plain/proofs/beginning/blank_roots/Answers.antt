use Rattle.std.proofs.Common.{arith}
use Rattle.bf_plain.proofs.BeginningLemmas.{blank_root, blank_more, blank_all}
use Rattle.bf_plain.proofs.beginning.blank_roots.Goals as goal

pub loop-root-preserved : goal.loop-root-preserved
loop-root-preserved c =
    blank_more c.args.case.now c.loop-root.leaves.items _ c.loop-root.root _ c.loop-root.invariant
    (blank_root c.args.case.now c.loop-root.root _ _ c.root_of.ensures c.in_ok-filled.ensures.cells) c.in_ok-push.ensures.items

pub returns : goal.returns
returns c = blank_all c.args.case.now c.loop-root.leaves.items c.loop-root.root c.loop-root.invariant
    (omega (arith, c.root_count-count.ensures.exact, c.loop-root.auto.root-end, c.loop-root-test.false))
