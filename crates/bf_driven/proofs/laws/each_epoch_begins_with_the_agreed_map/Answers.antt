use Rattle.std.proofs.Common.{subst, flat_map}
use Rattle.bf_block.specs.declared.point.Point.{Point}
use Rattle.bf_block.specs.Block.{map_at}
use Rattle.bf_world.specs.Runs.{run_after}
use Rattle.bf_forest.specs.declared.local.ForestLocal.{ForestLocal}
use Rattle.bf_forest.specs.DealtLaws.{good_where_dealt}
use Rattle.bf_forest.specs.ForestLaws.{whole_span}
use Rattle.bf_forest.specs.Leaves.{AreLeaves, bare_blocks}
use Rattle.bf_forest.specs.Meanings.{forest}
use Rattle.bf_forest.specs.Setup.{case_of}
use Rattle.bf_forest.specs.StageLaws.{point_first}
use Rattle.bf_driven.proofs.laws.each_epoch_begins_with_the_agreed_map.Goals as goal

pub returns : goal.returns
returns c = λ setup journal legal.
    let run = run_after forest setup journal in
    let good = c.each_epoch_begins_good.ensures setup journal legal in
    let leaves = c.the_blocks_are_the_models_leaves.ensures setup run.core.epoch 0 run.start good in
    let whole = whole_span setup run.core.epoch ((good_where_dealt setup run.core.epoch 0 run.start).0 good).0 in
    subst (λ (p : Point). AreLeaves (map_at (case_of setup) p) (flat_map (λ (local : ForestLocal). bare_blocks local.blocks) run.start)) (point_first setup run.core.epoch whole) leaves
