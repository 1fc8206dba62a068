-- States of a run.
use Rattle.std.proofs.Common.{◌≡◌, ℕ, ◌*◌, ◌≤◌, ◌<◌, List, length, replicate, arith, refl, ap, sym, ◌∙◌}
use Rattle.std.specs.Prelude.{None, filter, All}
use Rattle.std.specs.List.{range_with_len}
use Rattle.std.proofs.lemmas.List.{length-map, length-replicate}
use Rattle.std.proofs.lemmas.List.FromFn.{length-range_with_len}
use Rattle.bf_lemmas.proofs.Passes.{passed_below, passed_start, passed_stays, passed_goes, passed_end}
use Rattle.bf_program.specs.declared.epoch.Epoch.{Epoch}
use Rattle.bf_program.specs.Epochs.{first_epoch, epoch_after_commit, epoch_after_restore}
use Rattle.bf_core.specs.declared.standing.Standing.{Standing}
use Rattle.bf_core.specs.Rolls.{opening_in, dissolved_in}
use Rattle.bf_core.specs.Stages.{lives, is_filled}
use Rattle.bf_core.specs.States.{State, IsState, stage, opening, live_members}
use Rattle.bf_core.specs.Next.{filled_members, dissolved, committed, restored}

pub opening_is : (ranks : ℕ) (filled : List ℕ) (deaths : List (ℕ × ℕ)) (shift steps interval : ℕ) (standings : List Standing) (queues : List ℕ) (epoch : Epoch)
    → standings ≡ opening_in ranks deaths → queues ≡ replicate (ranks * ranks) 0 → epoch ≡ first_epoch ranks steps interval
    → ◌≡◌ {A = State} (record { ranks = ranks; standings = standings; queues = queues; epoch = epoch; stored = filled; shift = shift; steps = steps; interval = interval; outcome = None })
    (opening ranks filled deaths shift steps interval)
unfolding opening
opening_is ranks filled deaths shift steps interval standings queues epoch of_roll of_queues of_epoch = rw (of_roll, of_queues, of_epoch) refl

pub opening_length : (ranks : ℕ) (deaths : List (ℕ × ℕ)) → length (opening_in ranks deaths) ≡ ranks
opening_length ranks deaths = length-map (range_with_len 0 ranks) _ ∙ length-range_with_len 0 ranks

pub opening_known : (ranks : ℕ) (filled : List ℕ) (deaths : List (ℕ × ℕ)) (shift steps interval : ℕ) (standings : List Standing) (queues : List ℕ) (epoch : Epoch)
    → 1 ≤ ranks → ranks ≤ 32 → standings ≡ opening_in ranks deaths → queues ≡ replicate (ranks * ranks) 0
    → IsState (record { ranks = ranks; standings = standings; queues = queues; epoch = epoch; stored = filled; shift = shift; steps = steps; interval = interval; outcome = None })
opening_known ranks filled deaths shift steps interval standings queues epoch some few of_roll of_queues = record {
  some = some;
  few = few;
  every_standing = ap length of_roll ∙ opening_length ranks deaths;
  every_queue = ap length of_queues ∙ length-replicate (ranks * ranks) 0;
}

pub kept_live : (state : State) (live members : List ℕ) (rank : ℕ) → rank ≡ 32 → live ≡ passed_below (λ r. lives (stage state r)) state.epoch.members rank
    → members ≡ state.epoch.members → All (λ member. member < 32) members → live ≡ live_members state
unfolding live_members
kept_live state live members rank end kept are below =
    kept
    ∙ ap (passed_below (λ r. lives (stage state r)) state.epoch.members) end
    ∙ ap (λ those. passed_below (λ r. lives (stage state r)) those 32) (sym are)
    ∙ passed_end (λ r. lives (stage state r)) 32 32 members below (omega arith)
    ∙ ap (filter (λ r. lives (stage state r))) are

pub kept_filled : (state : State) (filled members : List ℕ) (rank : ℕ) → rank ≡ 32 → filled ≡ passed_below (λ r. is_filled (stage state r)) state.epoch.members rank
    → members ≡ state.epoch.members → All (λ member. member < 32) members → filled ≡ filled_members state
unfolding filled_members
kept_filled state filled members rank end kept are below =
    kept
    ∙ ap (passed_below (λ r. is_filled (stage state r)) state.epoch.members) end
    ∙ ap (λ those. passed_below (λ r. is_filled (stage state r)) those 32) (sym are)
    ∙ passed_end (λ r. is_filled (stage state r)) 32 32 members below (omega arith)
    ∙ ap (filter (λ r. is_filled (stage state r))) are

pub ruleset kept_steps = (passed_start, passed_stays, passed_goes)

pub dissolved_is : (old view : State) (standings : List Standing) (queues : List ℕ) → view ≡ old → standings ≡ dissolved_in view.standings
    → queues ≡ replicate (length view.queues) 0 → ◌≡◌ {A = State} (record view { standings = standings; queues = queues }) (dissolved old)
unfolding dissolved
dissolved_is old view standings queues same of_roll of_queues = rw (of_roll, of_queues, same) refl

pub committed_is : (old view : State) (epoch : Epoch) (stored : List ℕ) → view ≡ dissolved old → epoch ≡ epoch_after_commit view.steps view.interval view.epoch
    → stored ≡ filled_members old → ◌≡◌ {A = State} (record view { epoch = epoch; stored = stored }) (committed old)
unfolding dissolved
committed_is old view epoch stored same of_epoch of_stored = rw (of_epoch, of_stored, same) refl

pub restored_is : (old view : State) (epoch : Epoch) (live : List ℕ) → view ≡ dissolved old → epoch ≡ epoch_after_restore live view.epoch
    → live ≡ live_members old → ◌≡◌ {A = State} (record view { epoch = epoch }) (restored old)
unfolding dissolved
restored_is old view epoch live same of_epoch of_live = rw (of_epoch, of_live, same) refl
