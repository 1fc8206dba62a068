-- A rank before its first event.
use Rattle.std.proofs.Common.{◌≡◌, ℕ, ◌<◌, List, [], arith, refl, ap}
use Rattle.std.specs.Prelude.{◌==◌, Some}
use Rattle.std.specs.List.{range_with_len}
use Rattle.std.specs.Map.{lookup}
use Rattle.std.proofs.lemmas.Bool.{both_ways}
use Rattle.std.proofs.lemmas.List.FromFn.{get_or-map-range_with_len}
use Rattle.bf_program.specs.declared.epoch.Epoch.{Epoch}
use Rattle.bf_program.specs.Epochs.{first_epoch}
use Rattle.bf_program.specs.Meanings.{Meanings}
use Rattle.bf_program.specs.Laws.{KeepsReads}
use Rattle.bf_program.specs.Lockstep.{local_of}
use Rattle.bf_core.specs.declared.standing.Stage.TheVariants.{Running}
use Rattle.bf_core.specs.declared.standing.Standing.{Standing}
use Rattle.bf_core.specs.Stages.{is_leaving}
use Rattle.bf_core.specs.States.{stage, opening}
use Rattle.bf_core.proofs.StageLemmas.{nobody}
use Rattle.bf_world.specs.Runs.{opening_run, run_after}
use Rattle.bf_rank.specs.declared.stand.Stand.TheVariants as stands
use Rattle.bf_rank.specs.Ranks.{IsAt}
use Rattle.bf_rank.specs.Steps.{holding}
use Rattle.bf_world.proofs.HoldLemmas.{begins_at}

module _ {S L M T R : Type 0} (m : Meanings S L M T R) (good : S → Epoch → ℕ → List L → Type 0) (setup : S) (saves : KeepsReads m setup) where
  opening_stage : (rank : ℕ) → rank < m.ranks setup → stage (opening_run {T = T} m setup).core rank ≡ Running
  unfolding opening_run opening
  opening_stage rank ranked =
      ap (λ s. s.stage) (get_or-map-range_with_len {X = Standing} (λ r. record { stage = Running; death = lookup (λ other. other == r) (m.deaths setup); events = 0 })
      0 (m.ranks setup) rank rank nobody ranked (omega arith))

  pub opens_at : (rank : ℕ) (local : L) (epoch : Epoch) → rank < m.ranks setup → epoch ≡ first_epoch (m.ranks setup) (m.steps setup) (m.interval setup)
      → local_of (range_with_len 0 (m.ranks setup)) (m.opening setup) rank ≡ Some local → IsAt m good setup [] (holding rank local epoch stands.Opening)
  unfolding run_after opening_run opening
  opens_at rank local epoch ranked is its = record {
    within = ranked;
    agrees = (opening_stage rank ranked, (is, (begins_at m setup (opening_run {T = T} m setup).core (m.opening setup) [] rank ranked, (local, (refl, its)))));
    decided = λ leaving. absurd (both_ways _ (ap is_leaving (opening_stage rank ranked)) leaving);
    acted = λ fails. absurd (cc);
  }
