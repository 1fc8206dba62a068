use Rattle.std.proofs.Common.{All, sym, subst}
use Rattle.bf_snap.specs.Buffers.{TwoSides}
use Rattle.bf_msg.specs.declared.linked_block.LinkedBlock.{LinkedBlock}
use Rattle.bf_msg.specs.LinkedBlocks.{IsOwnedAmong}
use Rattle.bf_forest.proofs.PointSteps.{own_among, other_among}
use Rattle.bf_forest.proofs.program.ForestRankProgram.restore.Goals as goal

-- to let the new snapshot go leaves the agreed one as it is
pub restore-requires-clause-own : goal.restore-requires-clause-own
restore-requires-clause-own c =
    let P : TwoSides LinkedBlock → Type 0 = λ sides. All (IsOwnedAmong sides.active.homes) sides.active.own in
    subst P (sym c.clear_spare.ensures) (own_among c.args.setup.now c.args.epoch c.args.rank c.args.local.now c.requires)

pub restore-requires-clause-other : goal.restore-requires-clause-other
restore-requires-clause-other c =
    let P : TwoSides LinkedBlock → Type 0 = λ sides. All (IsOwnedAmong sides.active.homes) sides.active.other in
    subst P (sym c.clear_spare.ensures) (other_among c.args.setup.now c.args.epoch c.args.rank c.args.local.now c.requires)
