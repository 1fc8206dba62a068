-- What a turn came to, told by the journal alone.
use Rattle.std.proofs.Common.{◌≡◌, ℕ, Bool, true, false, List, [], ◌∷◌, ◌++◌, refl, sym, subst, ◌∙◌, ap, inl, inr}
use Rattle.std.specs.Prelude.{◌⊎◌}
use Rattle.bf_program.specs.declared.epoch.Epoch.{Epoch}
use Rattle.bf_program.specs.Meanings.{Meanings}
use Rattle.bf_core.specs.declared.event.Event.{Event}
use Rattle.bf_core.specs.Stages.{goes_on}
use Rattle.bf_core.specs.States.{stage, is_due}
use Rattle.bf_core.specs.Legal.{is_legal, IsOffered}
use Rattle.bf_core.proofs.LawLemmas.{nothing_legal}
use Rattle.bf_world.specs.Runs.{place, run_after}
use Rattle.bf_rank.specs.declared.stand.Turn.{Turn}
use Rattle.bf_rank.specs.declared.stand.Turn.TheVariants as turns
use Rattle.bf_rank.specs.Ranks.{IsTurn, TookTurn, short_arrival, event_of_failed}
use Rattle.bf_drive.specs.Drives.{Progress, Turned, GaveUp, Moved, Failed, Lacked, Waited}

module _ {S L M T R : Type 0} (m : Meanings S L M T R) (good : S → Epoch → ℕ → List L → Type 0) (setup : S) where
  -- a turn of a rank adds an event that a turn may add, or nothing, where none is offered
  abbrev pub Grew : (rank : ℕ) (old new : List Event) → Type 0
  Grew rank old new =
      ((event : Event) × ((new ≡ old ++ event ∷ []) × IsTurn m good setup old rank event))
      ⊎ ((new ≡ old) × ((event : Event) → IsOffered (run_after m setup old).core rank (place (run_after m setup old) rank) event → ⊥))

  pub grew : (rank : ℕ) (old new : Progress) → Turned m good setup rank old new → Grew rank old.journal new.journal
  grew rank old new (GaveUp failed is) =
      inl (event_of_failed (is_due (run_after m setup old.journal).core rank) rank, (ap (λ p. p.journal) is, by_due (is_due (run_after m setup old.journal).core rank) refl))
    where
      by_due : (due : Bool) → is_due (run_after m setup old.journal).core rank ≡ due → IsTurn m good setup old.journal rank (event_of_failed due rank)
      by_due true due = record { its = refl; offered = inl (record { its = refl; legal = due; memory = λ is. absurd (cc) }) }
      by_due false undue = record { its = refl; offered = inr refl }
  grew rank old new (Moved unfailed event offered is) = inl (event, (ap (λ p. p.journal) is, record { its = offered.its; offered = inl offered }))
  grew rank old new (Failed unfailed event offered runs is) = inl (event, (ap (λ p. p.journal) is, record { its = offered.its; offered = inl offered }))
  grew rank old new (Lacked unfailed some is) = inl (short_arrival rank, (ap (λ p. p.journal) is, record { its = refl; offered = inr refl }))
  grew rank old new (Waited unfailed none is) = inr (ap (λ p. p.journal) is, none)

  -- who has ended is offered nothing
  pub ended_offers_nothing : (journal : List Event) (rank : ℕ) → goes_on (stage (run_after m setup journal).core rank) ≡ false → (event : Event)
      → IsOffered (run_after m setup journal).core rank (place (run_after m setup journal) rank) event → ⊥
  ended_offers_nothing journal rank rests event offered =
      let quiet : is_legal (run_after m setup journal).core event (place (run_after m setup journal) rank) ≡ false =
      nothing_legal (run_after m setup journal).core event (place (run_after m setup journal) rank)
      (ap (λ r. goes_on (stage (run_after m setup journal).core r)) offered.its ∙ rests) in
      let e : true ≡ false = sym offered.legal ∙ quiet in cc

  pub took_grown : (old new : List Event) (rank : ℕ) (turn : Turn) → TookTurn m good setup old new rank turn → Grew rank old new
  took_grown old new rank turns.Moved took = inl took.1
  took_grown old new rank turns.NotYet took = inr took
  took_grown old new rank turns.Ended (rests, inl same) =
      inr (same, ended_offers_nothing old rank (let P : List Event → Type 0 = λ j. goes_on (stage (run_after m setup j).core rank) ≡ false in subst P same rests))
  took_grown old new rank turns.Ended (rests, inr moved) = inl moved
