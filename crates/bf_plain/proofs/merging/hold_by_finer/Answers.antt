use Rattle.std.proofs.Common.{◌≡◌, suc, ◌+◌, ◌-◌, subst, arith}
use Rattle.bf_case.specs.Map.{ids_of}
use Rattle.bf_plain.proofs.MergingLemmas.{HeldFrom, HeldFrom-next}
use Rattle.bf_plain.proofs.merging.hold_by_finer.Goals as goal

pub loop-settled-preserved : goal.loop-settled-preserved
loop-settled-preserved c =
    let shape = c.args.case.now.roots in
    let ids = ids_of c.args.leaves.now in
    let levels = c.args.case.now.levels in
    let next = levels - (c.loop-settled.settled + 1) in
    let level : levels - c.loop-settled.settled ≡ suc next = omega arith in
    record {
      held = HeldFrom-next shape ids c.args.atlas.now levels next c.args.held.now c.loop-settled.held c.hold_beside.new.held c.requires.surveyed
          (rw level at c.in_ok-hold_beside.ensures.held)
          (subst (λ n. HeldFrom shape ids levels c.args.held.now n c.loop-settled.held) level c.loop-settled.invariant.held);
      full = c.in_ok-hold_beside.ensures.full;
    }
