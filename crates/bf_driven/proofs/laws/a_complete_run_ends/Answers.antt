use Rattle.bf_world.specs.Runs.{run_after}
use Rattle.bf_forest.specs.Meanings.{forest}
use Rattle.bf_driven.proofs.laws.a_complete_run_ends.Goals as goal

pub returns : goal.returns
returns c = λ setup journal legal complete.
    let run = run_after forest setup journal in
    let home = c.some_home_has_a_block.ensures setup run.core.epoch 0 run.start (c.each_epoch_begins_good.ensures setup journal legal) in
    c.a_complete_run_has_an_end.ensures setup journal home.0 legal complete home.1
