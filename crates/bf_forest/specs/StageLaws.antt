-- Which round is which, and the point at its beginning.
use Rattle.std.proofs.Common.{◌≡◌, ℕ, ◌+◌, ◌<◌, ◌≤◌, Bool, true, false, cond, ◌⊎◌, inl, inr, arith, refl, sym, ap, ◌∙◌}
use Rattle.std.specs.Prelude.{◌%◌, ◌==◌, ◌&&◌, nat_lt}
use Rattle.std.proofs.lemmas.Bool.{cases_lt, cases_order}
use Rattle.bf_block.specs.Block.{before_regrid}
use Rattle.bf_case.specs.declared.case.Case.{Case}
use Rattle.bf_forest.specs.declared.setup.Setup.{Setup}
use Rattle.bf_program.specs.declared.epoch.Epoch.{Epoch}
use Rattle.bf_program.specs.Epochs.{target_of, target_in}
use Rattle.bf_stages.specs.Plans.{IsShort, span, rounds_of, stage_of}
use Rattle.bf_stages.proofs.PlanLemmas.{rounds_many, stage_in, stage_last, stage_past}
use Rattle.bf_forest.specs.declared.stage.Stage.TheVariants.{Step, Snapshot, Over}
use Rattle.bf_forest.specs.ModelBlocks.{ready}
use Rattle.bf_forest.specs.Setup.{case_of, every_setup_rests}
use Rattle.bf_forest.specs.Stages.{forest_plan}
use Rattle.bf_forest.specs.Staging.{point_at, point_in}

pub rounds_are : (epoch : Epoch) → rounds_of forest_plan epoch ≡ span epoch + 1
rounds_are epoch = let many = rounds_many forest_plan 1 (λ time. refl) epoch in omega (arith, many)

pub stage_step : (epoch : Epoch) (round : ℕ) → round < span epoch → stage_of forest_plan epoch round ≡ Step (epoch.time + round)
stage_step epoch round before = sym (stage_in forest_plan 1 (λ time. refl) epoch round round 0 before (omega arith) (omega arith))

pub stage_snapshot : (epoch : Epoch) (round : ℕ) → round ≡ span epoch → stage_of forest_plan epoch round ≡ Snapshot
stage_snapshot epoch round last = sym (stage_last forest_plan 1 (λ time. refl) epoch round (omega (arith, last)))

pub stage_over : (epoch : Epoch) (round : ℕ) → span epoch < round → stage_of forest_plan epoch round ≡ Over
stage_over epoch round past = sym (stage_past forest_plan 1 (λ time. refl) epoch round (omega (arith, past)))

-- a case without regrids steps from where a time begins
pub ready_rests : (setup : Setup) (time : ℕ) → ready (case_of setup) time ≡ before_regrid time
ready_rests setup time = ap (λ n. record { time = time; regridded = nat_lt 0 n && time % n == 0 }) (every_setup_rests setup)

-- an epoch begins at its time, and behind its steps are the blocks of its target
pub point_first : (setup : Setup) (epoch : Epoch) → epoch.time + span epoch ≡ epoch.target → point_at (case_of setup) epoch 0 ≡ before_regrid epoch.time
unfolding point_at
point_first setup epoch whole = elim (cases_lt 0 (span epoch)) [
  | inl some ↦ ap (point_in (case_of setup) epoch) (stage_step epoch 0 some) ∙ ap (ready (case_of setup)) (let e : epoch.time + 0 ≡ epoch.time = omega arith in e) ∙ ready_rests setup epoch.time
  | inr none ↦ ap (point_in (case_of setup) epoch) (stage_snapshot epoch 0 (omega (arith, none))) ∙ ap before_regrid (let e : epoch.target ≡ epoch.time = omega (arith, whole, none) in e)
]

pub point_end : (c : Case) (epoch : Epoch) (round : ℕ) → span epoch ≤ round → point_at c epoch round ≡ before_regrid epoch.target
unfolding point_at
point_end c epoch round past = elim (cases_order round (span epoch)) [
  | inl last ↦ ap (point_in c epoch) (stage_snapshot epoch round last)
  | inr other ↦ ap (point_in c epoch) (stage_over epoch round (more other))
]
  where
    more : (round < span epoch) ⊎ (span epoch < round) → span epoch < round
    more (inl less) = absurd (omega (arith, less, past))
    more (inr past) = past

-- an epoch to the next snapshot is short
pub short_epoch : (steps interval : ℕ) (epoch : Epoch) → interval ≤ 128 → epoch.time ≤ steps → epoch.target ≡ target_in steps interval epoch → IsShort epoch
short_epoch steps interval epoch short begins ends = record {
  forth = (at epoch.restored epoch.time epoch.target begins ends).0;
  near = (at epoch.restored epoch.time epoch.target begins ends).1;
}
  where
    at : (b : Bool) (time target : ℕ) → time ≤ steps → target ≡ cond b time (target_of steps interval time) → (time ≤ target) × (target ≤ time + 128)
    at true time target low is = (omega (arith, low, is), omega (arith, low, is))
    at false time target low is = (omega (arith, low, is, short), omega (arith, low, is, short))
