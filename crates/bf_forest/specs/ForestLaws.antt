-- The forest keeps the laws of round programs.
use Rattle.std.proofs.Common.{◌≡◌, ℕ, ◌+◌, ◌^◌, ◌<◌, ◌≤◌, Bool, true, false, cond, List, [], arith, refl, ap}
use Rattle.std.specs.Prelude.{Option, Some, None}
use Rattle.std.specs.List.{range_with_len}
use Rattle.std.proofs.lemmas.List.Elements.{All-nil, All-cons, All-weaker, filter_agree}
use Rattle.bf_lemmas.proofs.Lists.{map_alike}
use Rattle.bf_program.specs.declared.epoch.Epoch.{Epoch}
use Rattle.bf_program.specs.Epochs.{target_of}
use Rattle.bf_program.specs.Laws.{Laws, KeepsLimits}
use Rattle.bf_case.specs.declared.case.Case.{Case}
use Rattle.bf_block.specs.Block.{before_regrid}
use Rattle.bf_case.specs.Case.{IsScheduled, IsDeath, IsValid}
use Rattle.bf_forest.specs.declared.setup.Setup.{Setup}
use Rattle.bf_msg.specs.declared.linked_block.LinkedBlock.{LinkedBlock}
use Rattle.bf_msg.specs.LinkedBlocks.{linked_kind}
use Rattle.bf_forest.specs.Setup.{case_of, every_setup_is_valid}
use Rattle.bf_parts.specs.Leaves.{part_of, is_filled, side_at}
use Rattle.bf_parts.specs.Sides.{bare}
use Rattle.bf_parts.specs.Views.{View}
use Rattle.bf_rounds.specs.Delivering.{as_delivery}
use Rattle.bf_stages.specs.Snapshots.{heard_part}
use Rattle.bf_stages.specs.Stages.{head_of, IsStaged, KeepsSide, HasSides, HasSpans}
use Rattle.bf_stages.proofs.StageLemmas.{laws_staged, lens_keeps}
use Rattle.bf_forest.specs.declared.stage.Stage.{Stage}
use Rattle.bf_forest.specs.declared.stage.Stage.TheVariants.{Step, Snapshot, Over}
use Rattle.bf_forest.specs.BlockLaws.{are_leaves, first_owned, first_filled}
use Rattle.bf_forest.specs.Goods.{IsGood}
use Rattle.bf_forest.specs.Meanings.{forest, pieces, box_in, opened}
use Rattle.bf_forest.specs.Locals.{view_in, local_with, step_lens}
use Rattle.bf_forest.specs.ModelBlocks.{blocks_at, blocks_on, first_home}
use Rattle.bf_forest.specs.Rounds.{step_play, play_of}
use Rattle.bf_forest.specs.RoundLaws.{has_stages, is_short}
use Rattle.bf_stages.specs.Plans.{span, rounds_of, stages_of, stage_of}
use Rattle.bf_stages.proofs.PlanLemmas.{all_stages, first_stage, span_few, span_whole}
use Rattle.bf_forest.specs.BoxLaws.{boxes}
use Rattle.bf_forest.specs.StageLaws.{ready_rests, rounds_are}
use Rattle.bf_forest.specs.Stages.{forest_plan}
use Rattle.bf_forest.specs.Staging.{is_made, leaves_in, Runs, forest_staging}
use Rattle.bf_forest.specs.Starts.{starts}

pub sides : (setup : Setup) → HasSides forest forest_staging linked_kind setup
sides setup = record {
  seen = λ view heard. refl;
  reads = λ local. refl;
  stored = λ locals. refl;
  filled = λ local. refl;
  given = λ side rank epoch. refl;
  plays = λ epoch stage. by epoch stage;
  parcel = λ local. refl;
  keep = λ local. refl;
  restore = λ local rank epoch. refl;
}
  where
    heard : (view : View LinkedBlock) (msg : Option (List LinkedBlock)) → (heard_part view msg).active ≡ view.active
    heard view None = refl
    heard view (Some part) = refl

    -- calls leave the side of the agreed snapshot
    by : (epoch : Epoch) (stage : Stage) → KeepsSide view_in (play_of (case_of setup) epoch stage)
    by epoch (Step time) = lens_keeps view_in step_lens (as_delivery step_play) (λ local n. refl)
    by epoch Snapshot = record { out = λ local to. refl; hear = λ local peer msg. heard (view_in local) _; finish = λ local. refl }
    by epoch Over = record { out = λ local to. refl; hear = λ local peer msg. refl; finish = λ local. refl }

-- an epoch begins with the leaves of its time
begins_with : (setup : Setup) (epoch : Epoch) → epoch.time + span epoch ≡ epoch.target
    → leaves_in (case_of setup) epoch (head_of (stages_of forest_plan epoch) Over) ≡ blocks_at (case_of setup) epoch.time
begins_with setup epoch whole =
    let c : Case = case_of setup in
    first_stage forest_plan (λ stage. leaves_in c epoch stage ≡ blocks_at c epoch.time) Step (λ time other. refl) epoch.time (span epoch) (ap (blocks_on c) (ready_rests setup epoch.time))
    (λ none. ap (blocks_at c) (let e : epoch.target ≡ epoch.time = omega (arith, whole, none) in e))

-- the ranks' locals at the opening
opened_is : (c : Case) (rank : ℕ) → opened c rank ≡ local_with (record {
  rank = rank;
  items = part_of (blocks_at c 0) (first_home c) rank;
  active = side_at 0 (range_with_len 0 c.ranks) c.shift (blocks_at c 0) (first_home c) rank;
  spare = bare;
}) []
unfolding opened
opened_is c rank = refl

pub whole_span : (setup : Setup) (epoch : Epoch) → Runs (case_of setup) epoch → epoch.time + span epoch ≡ epoch.target
whole_span setup epoch runs = span_whole epoch (is_short setup epoch runs)

-- and ends within the run
pub ends_within : (setup : Setup) (epoch : Epoch) → Runs (case_of setup) epoch → epoch.target ≤ (case_of setup).steps
ends_within setup epoch runs = at epoch.restored epoch.time epoch.target (case_of setup).steps (case_of setup).snapshot runs.begins runs.ends
  where
    at : (b : Bool) (time target steps interval : ℕ) → time ≤ steps → target ≡ cond b time (target_of steps interval time) → target ≤ steps
    at true time target steps interval low is = omega (arith, low, is)
    at false time target steps interval low is = omega (arith, low, is)

pub spans : (setup : Setup) → HasSpans forest forest_staging linked_kind setup
spans setup =
    let c : Case = case_of setup in
    let valid : IsValid c = every_setup_is_valid setup in
    record {
      first_runs = record { begins = omega arith; ends = refl };
      commit_runs = λ epoch runs goes_on. record { begins = omega (arith, goes_on); ends = refl };
      restore_runs = λ epoch lives runs. record { begins = runs.begins; ends = refl };
      some_stage = λ epoch runs. let many = rounds_are epoch in omega (arith, many);
      are = λ epoch runs. are_leaves c (before_regrid epoch.time) valid;
      begins = λ epoch runs. begins_with setup epoch (whole_span setup epoch runs);
      ends = λ epoch runs. refl;
      also = λ epoch owner runs owned. tt;
      fresh = λ epoch owner rank runs. refl;
      keep = λ epoch view owner rank runs goes_on. refl;
      home_of = first_home c;
      housed = first_owned c valid;
      opening = map_alike (opened c) _ (range_with_len 0 c.ranks) (λ rank. opened_is c rank);
      laid = filter_agree (starts c) (is_filled (blocks_at c 0) (first_home c)) (first_filled c) (range_with_len 0 c.ranks);
    }

-- the rounds are the stages
pub staged : (setup : Setup) → IsStaged forest forest_staging setup
unfolding stage_of
staged setup = record {
  rounds = λ epoch. refl;
  plays = λ epoch round. record { peers = λ local. refl; out = λ local to. refl; take = λ local peer msg. refl; finish = λ local. refl };
  unmade = λ epoch. all_stages forest_plan Unmade (λ time. All-cons Unmade (Step time) [] refl (All-nil Unmade)) refl epoch.time (span epoch);
  made = refl;
}
  where
    Unmade : Stage → Type 0
    Unmade stage = is_made stage ≡ false

-- an epoch has at most 129 rounds
few_rounds : (epoch : Epoch) → rounds_of forest_plan epoch < 2 ^ 32
few_rounds epoch = let many = rounds_are epoch in let few = span_few epoch in omega (arith, many, few)

limits : (setup : Setup) → KeepsLimits forest setup
limits setup =
    let valid : IsValid (case_of setup) = every_setup_is_valid setup in
    let scheduled : IsScheduled (case_of setup) = valid.scheduled in
    record {
      some_rank = scheduled.some_ranks;
      ranks = omega (arith, scheduled.few_ranks);
      steps = scheduled.few_steps;
      shift = scheduled.near;
      some_interval = scheduled.some_snapshot;
      interval = scheduled.short_snapshot;
      rounds = λ epoch. few_rounds epoch;
      deaths = All-weaker {X = ℕ × ℕ} (IsDeath (case_of setup).ranks) (λ death. death.0 < (case_of setup).ranks) (λ death dies. dies.0) (case_of setup).dies valid.deaths;
      rising_deaths = valid.rising_deaths;
    }

pub lawful_forest : (setup : Setup) → Laws forest pieces IsGood setup
unfolding IsGood
lawful_forest setup =
    laws_staged forest forest_staging linked_kind setup (staged setup) pieces box_in (λ local. []) (sides setup) (spans setup) (has_stages setup) (boxes setup) (limits setup)
