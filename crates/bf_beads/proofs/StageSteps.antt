-- The stage of a round by its number.
use Rattle.std.proofs.Common.{◌≡◌, ◌≢◌, ℕ, ◌+◌, ◌*◌, ◌/◌, ◌%◌, ◌<◌, arith, refl, sym}
use Rattle.bf_program.specs.declared.epoch.Epoch.{Epoch}
use Rattle.bf_stages.specs.Plans.{span, rounds_of, stage_of}
use Rattle.bf_stages.proofs.PlanLemmas.{stage_in, stage_last, stage_past}
use Rattle.bf_beads.specs.declared.stage.Stage.TheVariants.{Tell, Grow, Move, Snapshot, Over}
use Rattle.bf_beads.specs.SpanLaws.{rounds_three}
use Rattle.bf_beads.specs.Stages.{bead_plan}

pub rounds_are : (epoch : Epoch) → 3 * span epoch + 1 ≡ rounds_of bead_plan epoch
rounds_are epoch = sym (rounds_three epoch)

pub past_all : (epoch : Epoch) (round : ℕ) → 3 * span epoch < round → Over ≡ stage_of bead_plan epoch round
past_all epoch round past = stage_past bead_plan 3 (λ time. refl) epoch round past

pub the_last : (epoch : Epoch) (round : ℕ) → 3 * span epoch ≡ round → Snapshot ≡ stage_of bead_plan epoch round
the_last epoch round is = stage_last bead_plan 3 (λ time. refl) epoch round is

pub a_tell : (epoch : Epoch) (round : ℕ) → round < 3 * span epoch → round % 3 ≡ 0 → Tell (epoch.time + round / 3) ≡ stage_of bead_plan epoch round
a_tell epoch round low rest = stage_in bead_plan 3 (λ time. refl) epoch round (round / 3) 0 (omega (arith, low)) (omega arith) (omega (arith, rest))

pub a_growth : (epoch : Epoch) (round : ℕ) → round < 3 * span epoch → round % 3 ≡ 1 → Grow (epoch.time + round / 3) ≡ stage_of bead_plan epoch round
a_growth epoch round low rest = stage_in bead_plan 3 (λ time. refl) epoch round (round / 3) 1 (omega (arith, low)) (omega arith) (omega (arith, rest))

pub a_move : (epoch : Epoch) (round : ℕ) → round < 3 * span epoch → round % 3 ≢ 0 → round % 3 ≢ 1 → Move (epoch.time + round / 3) ≡ stage_of bead_plan epoch round
a_move epoch round low no_first no_second =
    stage_in bead_plan 3 (λ time. refl) epoch round (round / 3) 2 (omega (arith, low)) (omega arith) (omega (arith, no_first, no_second))

pub ruleset stage_steps = (rounds_are, past_all, the_last, a_tell, a_growth, a_move)
