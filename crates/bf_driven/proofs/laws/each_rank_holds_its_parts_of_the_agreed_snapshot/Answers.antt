use Rattle.std.proofs.Common.{◌++◌, refl, sym, subst}
use Rattle.bf_core.specs.Stages.{is_leaving}
use Rattle.bf_core.specs.States.{stage}
use Rattle.bf_forest.specs.Goods.{HasParts}
use Rattle.bf_forest.specs.Meanings.{forest}
use Rattle.bf_forest.specs.ModelBlocks.{blocks_at}
use Rattle.bf_forest.specs.Setup.{case_of}
use Rattle.bf_forest.specs.LeafLaws.{all_dealt}
use Rattle.bf_forest.specs.Stages.{forest_plan}
use Rattle.bf_parts.specs.Leaves.{side_at}
use Rattle.bf_rank.specs.Ranks.{sight, last_decided}
use Rattle.bf_stages.specs.Plans.{rounds_of}
use Rattle.bf_world.specs.Runs.{run_after, last_locals}
use Rattle.bf_driven.proofs.HeldLemmas.{held_by, held_finished, held_later, its_agreed, leaving_has, owned_last}
use Rattle.bf_driven.proofs.laws.each_rank_holds_its_parts_of_the_agreed_snapshot.Goals as goal

pub returns : goal.returns
returns c = record {
  agreed = λ setup journal legal.
      let run = run_after forest setup journal in
      let time = run.core.epoch.time in
      let homes = run.core.epoch.homes in
      let has = all_dealt setup run.core.epoch 0 run.start (c.each_epoch_begins_good.ensures setup journal legal) in
      record {
        home = has.1;
        among = has.2.housed;
        side_of = side_at time homes (case_of setup).shift (blocks_at (case_of setup) time) has.1;
        parts = λ later quiet goes view holder.
            let after = run_after forest setup (journal ++ later) in
            held_by setup time homes has.1 after
            (held_later setup time homes has.1 journal later quiet (λ rank local its. its_agreed setup run.core.epoch 0 has.0 has.1 run.start rank local has.2 its)) view
            (is_leaving (stage after.core view.rank)) refl goes
            (λ leaves. leaving_has setup (sight after view.rank) view view.stand leaves holder.at.agrees)
            (λ stays. c.a_rank_keeps_what_a_restore_reads.ensures setup (journal ++ later) view holder.at holder.goes stays holder.enough holder.lasts);
      };
  finished = λ setup journal legal finished.
      let run = run_after forest setup journal in
      let has = (c.good_vectors_are_those_dealt.ensures setup run.core.epoch (rounds_of forest_plan run.core.epoch) (last_locals forest setup run)).0
      (c.the_last_locals_are_good.ensures setup journal legal) in
      record {
        home = has.1;
        among = owned_last setup run.core.epoch has.1 has.2 (last_locals forest setup run) has.0 has.3;
        parts = λ view must. held_finished setup run has.1 has.2 view has.0 has.3 finished (leaving_has setup (sight run view.rank) view view.stand must.leaves must.at.agrees);
      };
  before = λ setup journal legal.
      let run = last_decided forest setup journal in
      let has = all_dealt setup run.core.epoch 0 run.start (c.the_decided_epoch_began_good.ensures setup journal legal) in
      record {
        home = has.1;
        among = has.2.housed;
        parts = λ view had.
            let kept = c.a_rank_that_must_leave_keeps_what_a_restore_reads.ensures setup journal view had.must.at had.must.leaves had.enough in
            record {
              local = kept.0;
              its = kept.1.0;
              parts = subst (HasParts (case_of setup) run.core.epoch.time run.core.epoch.homes has.1 view.rank) (sym kept.1.1.same)
                  (its_agreed setup run.core.epoch 0 has.0 has.1 run.start view.rank kept.1.1.first has.2 kept.1.1.its).0;
            };
      };
}
