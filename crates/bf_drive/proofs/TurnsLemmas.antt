-- Journals grow by turns, and a pass through all ranks adds an event while some rank can move.
use Rattle.std.proofs.Common.{◌≡◌, ℕ, zero, suc, ◌+◌, ◌<◌, ◌≤◌, Bool, true, false, ◌||◌, List, [], ◌∷◌, length, arith, refl, sym, subst, ◌∙◌, ap, inl, inr}
use Rattle.std.specs.Prelude.{◌==◌}
use Rattle.std.specs.List.{range_with_len}
use Rattle.std.proofs.lemmas.Bool.{eqb-true, cases_lt}
use Rattle.std.proofs.Common.{length-append, add-zero, take}
use Rattle.std.proofs.Math.ListN.{get_or}
use Rattle.bf_buddy.proofs.MemberLemmas.{member_range}
use Rattle.bf_buddy.specs.Members.{is_member}
use Rattle.bf_program.specs.declared.epoch.Epoch.{Epoch}
use Rattle.bf_program.specs.Meanings.{Meanings}
use Rattle.bf_core.specs.declared.event.Event.{Event}
use Rattle.bf_core.specs.Legal.{IsOffered}
use Rattle.bf_world.specs.Runs.{place, run_after}
use Rattle.bf_rank.specs.Ranks.{RankView}
use Rattle.bf_drive.specs.Drives.{Progress, Leads, Turned, Turns, Passes}
use Rattle.bf_drive.proofs.TookLemmas.{Grew, grew}

module _ {S L M T R : Type 0} (m : Meanings S L M T R) (good : S → Epoch → ℕ → List L → Type 0) (setup : S) where
  turned_grows : (rank : ℕ) (old new : List Event) → Grew m good setup rank old new → length old ≤ length new
  turned_grows rank old new (inl (event, (more, turn))) = omega (arith, ap length more, length-append old (event ∷ []))
  turned_grows rank old new (inr (same, none)) = omega (arith, ap length same)

  pub turns_grow : (ranks : List ℕ) (old new : Progress) → Turns m good setup ranks old new → length old.journal ≤ length new.journal
  turns_grow [] old new same = omega (arith, ap (λ p. length p.journal) same)
  turns_grow (rank ∷ ranks) old new (next, (first, rest)) =
      omega (arith, turned_grows rank old.journal next.journal (grew m good setup rank old next first), turns_grow ranks next new rest)

  -- a turn that adds nothing comes where nothing is offered
  still_turn : (rank : ℕ) (old new : List Event) → Grew m good setup rank old new → length new ≡ length old
      → (new ≡ old) × ((event : Event) → IsOffered (run_after m setup old).core rank (place (run_after m setup old) rank) event → ⊥)
  still_turn rank old new (inl (event, (more, turn))) same = absurd (omega (arith, ap length more, length-append old (event ∷ []), same))
  still_turn rank old new (inr none) same = none

  -- turns that add nothing come where nothing is offered to any of the ranks
  pub still_turns : (ranks : List ℕ) (old new : Progress) → Turns m good setup ranks old new → length new.journal ≡ length old.journal → (rank : ℕ) → is_member ranks rank ≡ true
      → (event : Event) → IsOffered (run_after m setup old.journal).core rank (place (run_after m setup old.journal) rank) event → ⊥
  still_turns [] old new turns same rank member event offered = absurd (cc)
  still_turns (first ∷ ranks) old new (next, (turn, rest)) same rank member event offered =
      by_first (λ later at. still_turns ranks next new rest next_stays rank later event at) (first == rank) refl member
    where
      grows : Grew m good setup first old.journal next.journal
      grows = grew m good setup first old next turn

      next_same : length next.journal ≡ length old.journal
      next_same = omega (arith, turned_grows first old.journal next.journal grows, turns_grow ranks next new rest, same)

      next_stays : length new.journal ≡ length next.journal
      next_stays = same ∙ sym next_same

      quiet : (next.journal ≡ old.journal) × ((e : Event) → IsOffered (run_after m setup old.journal).core first (place (run_after m setup old.journal) first) e → ⊥)
      quiet = still_turn first old.journal next.journal grows next_same

      by_first : (is_member ranks rank ≡ true → IsOffered (run_after m setup next.journal).core rank (place (run_after m setup next.journal) rank) event → ⊥)
          → (b : Bool) → (first == rank) ≡ b → (b || is_member ranks rank) ≡ true → ⊥
      by_first later true is_first _ =
          let P : ℕ → Type 0 = λ r. IsOffered (run_after m setup old.journal).core r (place (run_after m setup old.journal) r) event in
          quiet.1 event (subst P (sym (eqb-true first rank is_first)) offered)
      by_first later false other is_later =
          let P : List Event → Type 0 = λ j. IsOffered (run_after m setup j).core rank (place (run_after m setup j) rank) event in
          later is_later (subst P (sym quiet.0) offered)

  -- a pass through all ranks adds an event while some rank is offered one
  pub pass_grows : (count rank : ℕ) (old new : Progress) → Turns m good setup (range_with_len 0 count) old new → rank < count
      → (event : Event) → IsOffered (run_after m setup old.journal).core rank (place (run_after m setup old.journal) rank) event → length old.journal < length new.journal
  pass_grows count rank old new turns within event offered = elim (cases_lt (length old.journal) (length new.journal)) [
    | inl more ↦ more
    | inr still ↦ absurd (still_turns (range_with_len 0 count) old new turns (omega (arith, still, turns_grow (range_with_len 0 count) old new turns)) rank
        (member_range 0 count rank (omega arith) (omega arith)) event offered)
  ]

  -- one more turn of an order
  pub turns_step : (order : List ℕ) (i d : ℕ) (old mid new : Progress) → i < length order → Turns m good setup (take i order) old mid
      → Turned m good setup (get_or order i d) mid new → Turns m good setup (take (i + 1) order) old new
  turns_step [] i d old mid new within turns turned = absurd (omega arith)
  turns_step (r ∷ rs) zero d old mid new within same turned =
      let P : Progress → Type 0 = λ j. Turned m good setup r j new in (new, (subst P same turned, refl))
  turns_step (r ∷ rs) (suc i) d old mid new within (next, (first, rest)) turned =
      let more : suc i + 1 ≡ suc (i + 1) = omega arith in
      let P : ℕ → Type 0 = λ n. Turns m good setup (take n (r ∷ rs)) old new in
      subst P (sym more) (next, (first, turns_step rs i d next mid new (omega arith) rest turned))

  -- one more turn of a pass
  pub pass_step : (k n : ℕ) (old mid new : Progress) → Turns m good setup (range_with_len k n) old mid
      → Turned m good setup (k + n) mid new → Turns m good setup (range_with_len k (n + 1)) old new
  pass_step k zero old mid new same turned =
      let P : Progress → Type 0 = λ j. Turned m good setup k j new in
      let Q : ℕ → Type 0 = λ r. Turned m good setup r mid new in
      (new, (subst P same (subst Q (add-zero k) turned), refl))
  pass_step k (suc n) old mid new (next, (first, rest)) turned =
      let more : suc n + 1 ≡ suc (n + 1) = omega arith in
      let there : k + suc n ≡ k + 1 + n = omega arith in
      let P : ℕ → Type 0 = λ c. Turns m good setup (range_with_len k c) old new in
      let Q : ℕ → Type 0 = λ r. Turned m good setup r mid new in
      subst P (sym more) (next, (first, pass_step (k + 1) n next mid new rest (subst Q there turned)))

  -- one more pass
  pub passes_step : (count : ℕ) (old mid new : Progress) → Passes m good setup count old mid
      → Turns m good setup (range_with_len 0 (m.ranks setup)) mid new → Passes m good setup (count + 1) old new
  passes_step zero old mid new same turns =
      let P : Progress → Type 0 = λ j. Turns m good setup (range_with_len 0 (m.ranks setup)) j new in (new, (subst P same turns, refl))
  passes_step (suc count) old mid new (next, (first, rest)) turns =
      let more : suc count + 1 ≡ suc (count + 1) = omega arith in
      let P : ℕ → Type 0 = λ n. Passes m good setup n old new in
      subst P (sym more) (next, (first, passes_step count next mid new rest turns))

-- one change after another leads where both do
pub leads_then : {L : Type 0} (First Second Both : (old new : Progress) → Type 0) (old mid new : List Event) (before between after : List (RankView L))
    → ((a b c : Progress) → First a b → Second b c → Both a c) → Leads First old mid before between → Leads Second mid new between after → Leads Both old new before after
leads_then First Second Both old mid new before between after both first second failed are =
    let here = first failed are in
    let there = second here.0 here.1.0 in
    (there.0, (there.1.0, both (record { journal = old; failed = failed }) (record { journal = mid; failed = here.0 }) (record { journal = new; failed = there.0 }) here.1.1 there.1.1))
