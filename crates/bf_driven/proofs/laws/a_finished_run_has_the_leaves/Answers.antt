use Rattle.std.proofs.Common.{subst, flat_map}
use Rattle.bf_case.specs.Model.{model}
use Rattle.bf_forest.specs.Setup.{case_of}
use Rattle.bf_world.specs.Runs.{run_after, last_locals}
use Rattle.bf_forest.specs.declared.local.ForestLocal.{ForestLocal}
use Rattle.bf_forest.specs.LeafLaws.{last_leaves}
use Rattle.bf_forest.specs.Leaves.{AreLeaves, bare_blocks}
use Rattle.bf_forest.specs.Meanings.{forest}
use Rattle.bf_forest.specs.ForestLaws.{lawful_forest}
use Rattle.bf_driven.proofs.ParcelLemmas.{parcels_are}
use Rattle.bf_driven.proofs.laws.a_finished_run_has_the_leaves.Goals as goal

pub returns : goal.returns
returns c = λ setup journal legal ends.
    let run = run_after forest setup journal in
    let epoch = run.core.epoch in
    let locals = last_locals forest setup run in
    let good = c.the_last_locals_are_good.ensures setup journal legal in
    parcels_are (model (case_of setup) (case_of setup).steps) epoch.members locals run.parcels ((lawful_forest setup).goods.one_each epoch (forest.rounds setup epoch) locals good)
    (subst (λ time. AreLeaves (model (case_of setup) time) (flat_map (λ (local : ForestLocal). bare_blocks local.blocks) locals))
    (c.a_finished_run_is_at_its_end.ensures setup journal legal ends) (last_leaves setup epoch locals good))
    (c.a_finished_run_has_every_parcel.ensures setup journal legal ends)
