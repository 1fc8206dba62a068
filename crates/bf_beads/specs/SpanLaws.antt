-- What is seen of a local, and how epochs begin and end.
use Rattle.std.proofs.Common.{◌≡◌, ℕ, ◌+◌, ◌*◌, true, false, List, [], ◌∷◌, arith, refl, ap, sym}
use Rattle.std.specs.Prelude.{nat_lt, ◌==◌, Option, Some, None, All}
use Rattle.std.specs.List.{count_by}
use Rattle.std.proofs.lemmas.List.{append-nil}
use Rattle.std.proofs.lemmas.List.Elements.{All-nil, All-cons}
use Rattle.std.proofs.Math.Nat.{mod-lt}
use Rattle.bf_program.specs.declared.epoch.Epoch.{Epoch}
use Rattle.bf_program.specs.Laws.{KeepsLimits}
use Rattle.bf_buddy.proofs.MemberLemmas.{range_has}
use Rattle.bf_parts.specs.Views.{View}
use Rattle.bf_rounds.specs.Delivering.{as_delivery}
use Rattle.bf_stages.specs.Snapshots.{heard_part}
use Rattle.bf_stages.specs.Stages.{head_of, IsStaged, KeepsSide, HasSides, HasSpans, HasPieces}
use Rattle.bf_stages.proofs.StageLemmas.{lens_keeps}
use Rattle.bf_beads.specs.declared.bead.Bead.{Bead}
use Rattle.bf_beads.specs.declared.setup.BeadSetup.{BeadSetup}
use Rattle.bf_beads.specs.declared.stage.Stage.{Stage}
use Rattle.bf_beads.specs.declared.stage.Stage.TheVariants.{Tell, Grow, Move, Snapshot, Over}
use Rattle.bf_beads.specs.Goods.{leaves_of, work_of, staging}
use Rattle.bf_beads.specs.Locals.{view_in, told_lens, moved_lens}
use Rattle.bf_beads.specs.Meanings.{beads, pieces}
use Rattle.bf_beads.specs.Rounds.{tell_play, bead_move, play_of}
use Rattle.bf_beads.specs.Row.{beads_at, bead_kind, home_in, numbers_of}
use Rattle.bf_beads.specs.RowLaws.{are_beads, one_number}
use Rattle.bf_stages.specs.Plans.{IsShort, span, rounds_of, stages_of, stage_of}
use Rattle.bf_stages.proofs.PlanLemmas.{all_stages, first_stage, rounds_many, span_few, span_whole}
use Rattle.bf_beads.specs.Stages.{bead_plan, is_made}

pub staged : (setup : BeadSetup) → IsStaged beads staging setup
unfolding stage_of
staged setup = record {
  rounds = λ epoch. refl;
  plays = λ epoch round. record { peers = λ local. refl; out = λ local to. refl; take = λ local peer msg. refl; finish = λ local. refl };
  unmade = λ epoch. all_stages bead_plan Unmade step_unmade refl epoch.time (span epoch);
  made = refl;
}
  where
    Unmade : Stage → Type 0
    Unmade stage = is_made stage ≡ false

    step_unmade : (time : ℕ) → All Unmade (bead_plan.in_step time)
    step_unmade time = All-cons Unmade (Tell time) (Grow time ∷ Move time ∷ []) refl
        (All-cons Unmade (Grow time) (Move time ∷ []) refl (All-cons Unmade (Move time) [] refl (All-nil Unmade)))

pub sides : (setup : BeadSetup) → HasSides beads staging bead_kind setup
sides setup = record {
  seen = λ view heard. refl;
  reads = λ local. refl;
  stored = λ locals. refl;
  filled = λ local. refl;
  given = λ side rank epoch. refl;
  plays = λ epoch stage. by epoch stage;
  parcel = λ local. refl;
  keep = λ local. refl;
  restore = λ local rank epoch. refl;
}
  where
    heard : (view : View Bead) (msg : Option (List Bead)) → (heard_part view msg).active ≡ view.active
    heard view None = refl
    heard view (Some items) = refl

    by : (epoch : Epoch) (stage : Stage) → KeepsSide view_in (play_of setup.shift epoch stage)
    by epoch (Tell time) = lens_keeps view_in told_lens (as_delivery tell_play) (λ local n. refl)
    by epoch (Grow time) = record { out = λ local to. refl; hear = λ local peer msg. refl; finish = λ local. refl }
    by epoch (Move time) = lens_keeps view_in moved_lens (bead_move epoch.members time) (λ local n. refl)
    by epoch Snapshot = record { out = λ local to. refl; hear = λ local peer msg. heard (view_in local) _; finish = λ local. refl }
    by epoch Over = record { out = λ local to. refl; hear = λ local peer msg. refl; finish = λ local. refl }

-- an epoch begins with the beads of its time, and nothing heard
first_beads : (setup : BeadSetup) (epoch : Epoch) → IsShort epoch → leaves_of setup.beads epoch (head_of (stages_of bead_plan epoch) Over) ≡ beads_at setup.beads epoch.time
first_beads setup epoch short =
    first_stage bead_plan (λ stage. leaves_of setup.beads epoch stage ≡ beads_at setup.beads epoch.time) Tell (λ time other. refl) epoch.time (span epoch) refl
    (λ none. ap (beads_at setup.beads) (let whole = span_whole epoch short in let e : epoch.target ≡ epoch.time = omega (arith, whole, none) in e))

first_work : (setup : BeadSetup) (epoch : Epoch) (owner : ℕ → ℕ) (rank : ℕ) → work_of setup.beads epoch (head_of (stages_of bead_plan epoch) Over) owner rank ≡ []
first_work setup epoch owner rank =
    first_stage bead_plan (λ stage. work_of setup.beads epoch stage owner rank ≡ []) Tell (λ time other. refl) epoch.time (span epoch) refl (λ none. refl)

pub rounds_three : (epoch : Epoch) → rounds_of bead_plan epoch ≡ 3 * span epoch + 1
rounds_three epoch = rounds_many bead_plan 3 (λ time. refl) epoch

pub spans : (setup : BeadSetup) → HasSpans beads staging bead_kind setup
spans setup = record {
  first_runs = record { forth = omega arith; near = omega (arith, setup.interval_fits) };
  commit_runs = λ epoch runs goes_on. record { forth = omega (arith, goes_on); near = omega (arith, setup.interval_fits) };
  restore_runs = λ epoch lives runs. record { forth = omega arith; near = omega arith };
  some_stage = λ epoch runs. let many = rounds_three epoch in omega (arith, many);
  are = λ epoch runs. are_beads setup.beads epoch.time;
  begins = λ epoch runs. first_beads setup epoch runs;
  ends = λ epoch runs. refl;
  also = λ epoch owner runs owned. tt;
  fresh = λ epoch owner rank runs. first_work setup epoch owner rank;
  keep = λ epoch view owner rank runs goes_on. refl;
  home_of = home_in setup.ranks;
  housed = λ k d within. range_has setup.ranks _ (mod-lt _ (omega (arith, setup.some_rank)));
  opening = refl;
  laid = refl;
}

pub limits : (setup : BeadSetup) → KeepsLimits beads setup
limits setup = record {
  some_rank = setup.some_rank;
  ranks = setup.ranks_fit;
  steps = setup.steps_fit;
  shift = setup.shift_fits;
  some_interval = setup.some_interval;
  interval = setup.interval_fits;
  rounds = λ epoch. let many = rounds_three epoch in let few = span_few epoch in omega (arith, many, few);
  deaths = setup.deaths_below;
  rising_deaths = setup.deaths_rise;
}

pub has_pieces : (setup : BeadSetup) → HasPieces beads staging bead_kind setup pieces (λ (bead : Bead). bead.number) (λ local. [])
has_pieces setup = record {
  blind = λ f item unit. refl;
  of_local = λ local. sym (append-nil (numbers_of local.beads));
  of_saved = λ side rank home. refl;
  of_parcel = λ local. refl;
  parcel_items = λ local. refl;
  parcel_cargo = λ local. refl;
  keep_cargo = λ local. refl;
  fresh_cargo = λ view epoch rank. refl;
  no_cargo = λ epoch stage view owner rank runs. refl;
  once = λ epoch stage owner unit runs within. at stage epoch owner unit within;
}
  where
    at : (stage : Stage) (epoch : Epoch) (owner : ℕ → ℕ) (unit : ℕ) → nat_lt unit setup.beads ≡ true
        → count_by (λ number. ((leaves_of setup.beads epoch stage).item owner number).number == unit) (leaves_of setup.beads epoch stage).keys ≡ 1
    at (Tell time) epoch owner unit within = one_number setup.beads unit within
    at (Grow time) epoch owner unit within = one_number setup.beads unit within
    at (Move time) epoch owner unit within = one_number setup.beads unit within
    at Snapshot epoch owner unit within = one_number setup.beads unit within
    at Over epoch owner unit within = one_number setup.beads unit within
