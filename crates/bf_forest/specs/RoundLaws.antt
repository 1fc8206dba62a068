-- The stages of an epoch lead to each other: steps to the next blocks of the model, and the last to the new snapshot.
use Rattle.std.proofs.Common.{◌≡◌, ℕ, ◌+◌, List, [], refl, sym, ap, ◌∙◌, subst}
use Rattle.std.specs.List.{count_by}
use Rattle.std.specs.List.Sorted.{IsStrictlyIncreasing}
use Rattle.std.proofs.Math.Nat.{add-zero, zero-add}
use Rattle.bf_program.specs.declared.epoch.Epoch.{Epoch}
use Rattle.bf_program.specs.Laws.{times}
use Rattle.bf_id.specs.Cube.{Voxel, holds}
use Rattle.bf_id.specs.Id.{BlockId}
use Rattle.bf_case.specs.declared.case.Case.{Case}
use Rattle.bf_case.specs.Case.{IsValid}
use Rattle.bf_block.specs.declared.point.Point.{Point}
use Rattle.bf_block.specs.Block.{before_regrid}
use Rattle.bf_parts.specs.CoverLaws.{count_mapped}
use Rattle.bf_parts.specs.Leaves.{AreAmong, part_of}
use Rattle.bf_rounds.specs.Delivering.{as_delivery}
use Rattle.bf_rounds.specs.Leading.{LeadsBy, Weighs}
use Rattle.bf_rounds.proofs.LeadLemmas.{gathers_by, lens_part}
use Rattle.bf_stages.specs.Moves.{Hand}
use Rattle.bf_stages.specs.Plans.{IsShort}
use Rattle.bf_stages.specs.Snapshots.{sees_paired, snapshot_play}
use Rattle.bf_stages.specs.Stages.{World, Follows, HasStages, local_of_stage}
use Rattle.bf_stages.proofs.PlanLemmas.{plan_chain}
use Rattle.bf_stages.proofs.SnapshotLemmas.{paired_sight}
use Rattle.bf_stages.proofs.StageLemmas.{part_follows, snapshot_follows}
use Rattle.bf_ghost.specs.Strips.{StripValue}
use Rattle.bf_msg.specs.declared.linked_block.LinkedBlock.{LinkedBlock}
use Rattle.bf_msg.specs.declared.message.Message.TheVariants.{Step as StepMessage, Snapshot as SnapshotMessage}
use Rattle.bf_msg.specs.LinkedBlocks.{linked_kind}
use Rattle.bf_forest.specs.declared.local.ForestLocal.{ForestLocal}
use Rattle.bf_forest.specs.declared.setup.Setup.{Setup}
use Rattle.bf_forest.specs.declared.stage.Stage.{Stage}
use Rattle.bf_forest.specs.declared.stage.Stage.TheVariants.{Step, Snapshot, Over}
use Rattle.bf_forest.specs.BlockLaws.{owned_next}
use Rattle.bf_forest.specs.BoxLaws.{boxes}
use Rattle.bf_forest.specs.Locals.{local_with, step_lens, snapshot_lens}
use Rattle.bf_forest.specs.Meanings.{forest, pieces, box_in}
use Rattle.bf_forest.specs.ModelBlocks.{blocks_at, blocks_on, ready}
use Rattle.bf_forest.specs.NeighborLaws.{neighbors_mutual}
use Rattle.bf_forest.specs.Rounds.{is_neighbor, stepped_by, stepped_all, step_play}
use Rattle.bf_forest.specs.Setup.{case_of, every_setup_is_valid}
use Rattle.bf_forest.specs.StageLaws.{ready_rests, short_epoch}
use Rattle.bf_forest.specs.Stages.{forest_plan}
use Rattle.bf_forest.specs.Staging.{leaves_in, hand_at, local_of_hand, step_course, Runs, forest_staging}
use Rattle.bf_forest.specs.StepLaws.{stepped_part}

-- A STEP on its own: the hands behind a time's regrid lead to those of the next time
module _ (c : Case) (epoch : Epoch) (time : ℕ) (valid : IsValid c) (owner : BlockId → ℕ) where
  abbrev before : ℕ → Hand (List StripValue) LinkedBlock
  before rank = hand_at c (ready c time) owner rank []

  abbrev after : ℕ → Hand (List StripValue) LinkedBlock
  after rank = hand_at c (before_regrid (time + 1)) owner rank []

  pub step_by : IsStrictlyIncreasing epoch.members → AreAmong epoch.members (blocks_on c (ready c time)) owner
      → LeadsBy (as_delivery step_play) epoch.members (step_course c epoch time owner) before after
  step_by up owned = gathers_by step_play (λ peer msg. msg) (hand_at c (ready c time) owner) epoch.members before after
      (λ rank other. is_neighbor rank (part_of (blocks_on c (ready c time)) owner rank) other) up (neighbors_mutual c (ready c time) owner epoch.members) (record {
        none = λ rank is_in. refl;
        hear = λ rank peer heard. refl;
        finish = λ rank is_in. ap (λ (items : List LinkedBlock). record { rank = rank; known = []; items = items })
            (stepped_part c time valid owner epoch.members rank _ owned refl);
      })

-- how often blocks have a unit
abbrev with_unit : Voxel → List LinkedBlock → ℕ
with_unit unit blocks = count_by (λ b. holds (box_in b) unit) blocks

abbrev on_hand : Voxel → Hand (List StripValue) LinkedBlock → ℕ
on_hand unit hand = with_unit unit hand.items

-- no box comes or goes by a step
step_weighs : (c : Case) (unit : Voxel) → Weighs (on_hand unit) (λ word. 0) (as_delivery step_play)
unfolding stepped_all
step_weighs c unit = record {
  out = λ hand to. add-zero (on_hand unit hand);
  hear = λ hand peer msg. sym (add-zero (on_hand unit hand));
  finish = λ hand. count_mapped (stepped_by _) (λ b. holds (box_in b) unit) (λ b. holds (box_in b) unit) (λ b. refl) hand.items;
}

module _ (setup : Setup) (epoch : Epoch) where
  abbrev pub case : Case
  case = case_of setup

  abbrev pub LeadsTo : Stage → Stage → Type 0
  LeadsTo stage next = Follows forest forest_staging setup pieces epoch stage next

  abbrev embed : World BlockId → ℕ → Hand (List StripValue) LinkedBlock → ForestLocal
  embed = local_of_hand case epoch

  -- in a local a hand weighs what it does
  hand_weight : (unit : Voxel) (world : World BlockId) (rank : ℕ) (hand : Hand (List StripValue) LinkedBlock) → times pieces (pieces.of_local (embed world rank hand)) unit ≡ 0 + on_hand unit hand
  hand_weight unit world rank hand = count_mapped box_in (λ box. holds box unit) (λ b. holds (box_in b) unit) (λ b. refl) hand.items ∙ sym (zero-add (on_hand unit hand))

  -- what comes next has the blocks of the next time, and nothing heard
  step_follows : (time : ℕ) (next : Stage)
      → ((world : World BlockId) (rank : ℕ) → embed world rank (hand_at case (before_regrid (time + 1)) world.owner rank []) ≡ local_of_stage forest forest_staging setup epoch next world rank)
      → ((owner : BlockId → ℕ) → AreAmong epoch.members (blocks_at case (time + 1)) owner → AreAmong epoch.members (leaves_in case epoch next) owner)
      → LeadsTo (Step time) next
  step_follows time next same among =
      part_follows forest forest_staging setup pieces epoch (Step time) next (as_delivery step_play) embed embed StepMessage (λ world. step_course case epoch time world.owner)
      (λ world rank. hand_at case (ready case time) world.owner rank []) (λ world rank. hand_at case (before_regrid (time + 1)) world.owner rank []) on_hand (λ unit word. 0) (λ unit world rank. 0) (record {
        part = λ world. lens_part step_lens (as_delivery step_play) (embed world) (record { taken = λ rank n. refl; given = λ rank n now. refl; read = λ word. refl });
        course_is = λ world. refl;
        before_is = λ world rank placed is_in. refl;
        after_is = λ world rank placed is_in. same world rank;
        leads = λ world placed. step_by case epoch time (every_setup_is_valid setup) world.owner placed.held.members_rise placed.owned;
        owned = λ world placed. among world.owner (owned_next case time epoch.members world.owner placed.owned);
        also = λ world placed. tt;
        weighs = step_weighs case;
        of_local = hand_weight;
        of_after = hand_weight;
        of_word = λ unit word. refl;
      })

  snapshot_leads : Runs case epoch → LeadsTo Snapshot Over
  snapshot_leads runs = snapshot_follows forest forest_staging setup pieces epoch Snapshot Over linked_kind box_in (λ local. []) (λ view heard. refl) (boxes setup) runs
      (sees_paired case.shift) SnapshotMessage (record {
        sight = paired_sight case.shift epoch.members;
        part = λ world. lens_part snapshot_lens (as_delivery (snapshot_play (sees_paired case.shift) case.shift epoch)) (λ rank view. local_with view [])
            (record { taken = λ rank n. refl; given = λ rank n now. refl; read = λ word. refl });
        course_is = λ world. refl;
        leaves = refl;
        leaves_after = refl;
        unmade = refl;
        made = refl;
        stays = λ owner. refl;
        work = λ owner rank. refl;
        also = λ world placed. tt;
        light = λ word unit. refl;
      })

-- the epochs that come up are short
pub is_short : (setup : Setup) (epoch : Epoch) → Runs (case_of setup) epoch → IsShort epoch
is_short setup epoch runs = short_epoch (case_of setup).steps (case_of setup).snapshot epoch (every_setup_is_valid setup).scheduled.short_snapshot runs.begins runs.ends

pub has_stages : (setup : Setup) → HasStages forest forest_staging setup pieces
has_stages setup epoch runs =
    plan_chain forest_plan (LeadsTo setup epoch) Step (λ time other. refl) epoch (is_short setup epoch runs)
    (λ time. (
      step_follows setup epoch time (Step (time + 1))
          (λ world rank. ap (λ (p : Point). local_of_hand (case_of setup) epoch world rank (hand_at (case_of setup) p world.owner rank [])) (sym (ready_rests setup (time + 1))))
          (λ owner owned. subst (λ (p : Point). AreAmong epoch.members (blocks_on (case_of setup) p) owner) (sym (ready_rests setup (time + 1))) owned),
      tt,
    ))
    (λ time last. (
      step_follows setup epoch time Snapshot
          (λ world rank. ap (λ t. local_of_hand (case_of setup) epoch world rank (hand_at (case_of setup) (before_regrid t) world.owner rank [])) last)
          (λ owner owned. subst (λ t. AreAmong epoch.members (blocks_at (case_of setup) t) owner) last owned),
      tt,
    ))
    (snapshot_leads setup epoch runs)
