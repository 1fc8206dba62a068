-- Turns lighten a run.
use Rattle.std.proofs.Common.{◌≡◌, ℕ, ◌<◌, true, false, List, [], ◌∷◌, ◌++◌, length, arith, refl, sym, subst, ◌∙◌, ap, inl, inr, length-append}
use Rattle.std.proofs.lemmas.Bool.{cases_lt}
use Rattle.std.specs.List.{range_with_len}
use Rattle.bf_program.specs.declared.epoch.Epoch.{Epoch}
use Rattle.bf_program.specs.Meanings.{Meanings}
use Rattle.bf_program.specs.Laws.{KeepsLimits, KeepsGood, KeepsStored, KeepsPeers}
use Rattle.bf_core.specs.declared.event.Event.{Event}
use Rattle.bf_core.specs.States.{stage, is_finished}
use Rattle.bf_core.specs.Orders.{CanMove}
use Rattle.bf_core.specs.Legal.{IsOffered}
use Rattle.bf_core.specs.Stages.{goes_on}
use Rattle.bf_core.proofs.StageLemmas.{is_rank}
use Rattle.bf_core.proofs.LawLemmas.{IsStep, step_of}
use Rattle.bf_world.specs.Messages.{AreQueuesOf}
use Rattle.bf_world.specs.Queues.{Waiting}
use Rattle.bf_world.specs.Runs.{Run, place, run_after, is_journal}
use Rattle.bf_world.proofs.LawfulLemmas.{IsLawful, after_lawful}
use Rattle.bf_world.proofs.OrderLemmas.{somebody_can_move}
use Rattle.bf_world.specs.Weights.{weight}
use Rattle.bf_world.proofs.WeightLemmas.{journal_falls}
use Rattle.bf_drive.specs.Drives.{Progress, Turns}
use Rattle.bf_drive.proofs.TookLemmas.{Grew}
use Rattle.bf_drive.specs.Lighter.{IsLighter}
use Rattle.bf_drive.proofs.StayLemmas.{first_legal, last_legal}
use Rattle.bf_drive.proofs.TurnsLemmas.{pass_grows}

module _ {S L M T R : Type 0} (m : Meanings S L M T R) (setup : S) where
  pub lighter_same : (old new : List Event) → new ≡ old → IsLighter m setup old new
  lighter_same old new same =
      let P : List Event → Type 0 = IsLighter m setup old in
      subst P (sym same) (record { grows = omega arith; no_more = omega arith; less = λ more. absurd (omega arith) })

  pub lighter_then : (old mid new : List Event) → IsLighter m setup old mid → IsLighter m setup mid new → IsLighter m setup old new
  lighter_then old mid new first second = record {
    grows = omega (arith, first.grows, second.grows);
    no_more = omega (arith, first.no_more, second.no_more);
    less = λ more. elim (cases_lt (length old) (length mid)) [
      | inl here ↦ omega (arith, first.less here, second.no_more)
      | inr still ↦ omega (arith, first.no_more, second.less (omega (arith, more, still)))
    ];
  }

module _ {S L M T R : Type 0} (m : Meanings S L M T R) (good : S → Epoch → ℕ → List L → Type 0) (setup : S)
    (limits : KeepsLimits m setup) (goods : KeepsGood m good setup) (stores : KeepsStored m good setup) (peers : KeepsPeers m good setup) where
  pub turned_lightens : (rank : ℕ) (old new : List Event) → is_journal m setup new ≡ true → Grew m good setup rank old new → IsLighter m setup old new
  turned_lightens rank old new legal (inr (same, none)) = lighter_same m setup old new same
  turned_lightens rank old new legal (inl (event, (more, turn))) =
      let J : List Event → Type 0 = λ j. is_journal m setup j ≡ true in
      let whole : is_journal m setup (old ++ event ∷ []) ≡ true = subst J more legal in
      let falls : weight m setup (run_after m setup (old ++ event ∷ [])) < weight m setup (run_after m setup old) =
      journal_falls m good setup goods stores peers limits old event (first_legal m setup old event whole) (last_legal m setup old event whole) in
      let P : List Event → Type 0 = IsLighter m setup old in
      subst P (sym more) (record {
        grows = omega (arith, length-append old (event ∷ []));
        no_more = omega (arith, falls);
        less = λ _. falls;
      })

  -- who is offered an event is a rank
  ranked : (run : Run L T) → IsLawful m good setup goods stores run → (rank : ℕ) (event : Event) → IsOffered run.core rank (place run rank) event → rank < m.ranks setup
  ranked run lawful rank event offered =
      let step : IsStep run.core event false = step_of run.core event (place run rank) false offered.legal in
      let goes : goes_on (stage run.core rank) ≡ true = ap (λ r. goes_on (stage run.core r)) (sym offered.its) ∙ step.went in
      omega (arith, is_rank goes_on run.core rank refl goes, lawful.sound.size, lawful.steady.ranks)

  -- a pass through all ranks leaves less to be done, unless all have ended
  pub pass_lightens : (old new : Progress) (waiting : Waiting M) → is_journal m setup old.journal ≡ true → AreQueuesOf m setup (run_after m setup old.journal) waiting
      → is_finished (run_after m setup old.journal).core ≡ false → Turns m good setup (range_with_len 0 (m.ranks setup)) old new → IsLighter m setup old.journal new.journal
      → weight m setup (run_after m setup new.journal) < weight m setup (run_after m setup old.journal)
  pass_lightens old new waiting legal queues unfinished turns lighter =
      let lawful : IsLawful m good setup goods stores (run_after m setup old.journal) = after_lawful m good setup goods stores limits old.journal legal in
      let can : CanMove (run_after m setup old.journal).core (place (run_after m setup old.journal)) = somebody_can_move m good setup goods stores peers (run_after m setup old.journal) waiting lawful queues unfinished in
      lighter.less (pass_grows m good setup (m.ranks setup) can.0 old new turns (ranked (run_after m setup old.journal) lawful can.0 can.1.0 can.1.1) can.1.0 can.1.1)
