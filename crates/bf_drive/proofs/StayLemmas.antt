-- A rank's account stays through another rank's turn.
use Rattle.std.proofs.Common.{◌≡◌, ◌≢◌, ℕ, ◌<◌, true, List, [], ◌∷◌, ◌++◌, length, arith, refl, sym, subst, ◌∙◌, inl, inr}
use Rattle.std.specs.Prelude.{◌⊎◌, ◌==◌, slice_set}
use Rattle.std.proofs.Math.ListN.{get_or}
use Rattle.std.proofs.lemmas.Bool.{cases_eq, and_from, and_parts}
use Rattle.std.proofs.lemmas.List.{get_or-set_same, get_or-set_other, length-set}
use Rattle.bf_drive.specs.Drives.{AreAt}
use Rattle.bf_drive.proofs.TookLemmas.{Grew}
use Rattle.bf_program.specs.declared.epoch.Epoch.{Epoch}
use Rattle.bf_program.specs.Meanings.{Meanings}
use Rattle.bf_program.specs.Laws.{KeepsLimits, KeepsGood, KeepsStored, KeepsReads}
use Rattle.bf_core.specs.declared.event.Event.{Event}
use Rattle.bf_core.specs.Legal.{actor, is_legal}
use Rattle.bf_world.specs.Runs.{Run, place, will_be_filled, next_run, is_legal_in, run_from, is_legal_from, run_after, is_journal, opening_run}
use Rattle.bf_world.proofs.LawfulLemmas.{IsLawful, after_lawful}
use Rattle.bf_world.proofs.RunLemmas.{run_more}
use Rattle.bf_rank.specs.Ranks.{RankView, sight, last_decided, Agrees, IsAt}
use Rattle.bf_rank.proofs.AgreeLemmas.{agrees_happened, agrees_other}
use Rattle.bf_rank.proofs.DecidedLemmas.{any_more, arrival_more, arrival_other}
use Rattle.bf_core.proofs.LawLemmas.{step_of}

module _ {S L M T R : Type 0} (m : Meanings S L M T R) (setup : S) where
  last_legal_from : (run : Run L T) (journal : List Event) (event : Event) → is_legal_from m setup run (journal ++ event ∷ []) ≡ true
      → is_legal_in m setup (run_from m setup run journal) event ≡ true
  last_legal_from run [] event legal = (and_parts (is_legal_in m setup run event) _ legal).0
  last_legal_from run (first ∷ rest) event legal =
      last_legal_from (next_run m setup run first) rest event (and_parts (is_legal_in m setup run first) _ legal).1

  first_legal_from : (run : Run L T) (journal : List Event) (event : Event) → is_legal_from m setup run (journal ++ event ∷ []) ≡ true → is_legal_from m setup run journal ≡ true
  first_legal_from run [] event legal = refl
  first_legal_from run (first ∷ rest) event legal = and_from (is_legal_in m setup run first) _ (and_parts (is_legal_in m setup run first) _ legal).0
      (first_legal_from (next_run m setup run first) rest event (and_parts (is_legal_in m setup run first) _ legal).1)

  -- the last event of a journal is legal after those before
  pub last_legal : (journal : List Event) (event : Event) → is_journal m setup (journal ++ event ∷ []) ≡ true → is_legal_in m setup (run_after m setup journal) event ≡ true
  unfolding is_journal run_after
  last_legal journal event legal = last_legal_from (opening_run m setup) journal event legal

  pub first_legal : (journal : List Event) (event : Event) → is_journal m setup (journal ++ event ∷ []) ≡ true → is_journal m setup journal ≡ true
  unfolding is_journal
  first_legal journal event legal = first_legal_from (opening_run m setup) journal event legal

module _ {S L M T R : Type 0} (m : Meanings S L M T R) (good : S → Epoch → ℕ → List L → Type 0) (setup : S)
    (limits : KeepsLimits m setup) (goods : KeepsGood m good setup) (stores : KeepsStored m good setup) (saves : KeepsReads m setup) where
  -- a rank's account agrees with a journal to which another rank has added an event
  pub stays_at : (journal : List Event) (event : Event) (view : RankView L) → is_journal m setup (journal ++ event ∷ []) ≡ true → view.rank ≢ actor event
      → IsAt m good setup journal view → IsAt m good setup (journal ++ event ∷ []) view
  unfolding is_legal_in
  stays_at journal event view legal differs at =
      let lawful : IsLawful m good setup goods stores (run_after m setup journal) = after_lawful m good setup goods stores limits journal (first_legal m setup journal event legal) in
      let its : is_legal (run_after m setup journal).core event (place (run_after m setup journal) (actor event)) ≡ true =
      (and_parts (is_legal (run_after m setup journal).core event (place (run_after m setup journal) (actor event))) _ (last_legal m setup journal event legal)).0 in
      record {
        within = at.within;
        agrees =
            let P : Run L T → Type 0 = λ run. Agrees m good setup (sight run view.rank) view view.stand in
            subst P (sym (run_more m setup journal event))
            (agrees_other m good setup saves (run_after m setup journal) event view view.stand at.within lawful.steady.good_start its differs at.agrees);
        decided = arrival_more m good setup journal (journal ++ event ∷ []) event view view.stand refl
            (agrees_happened m good setup saves (run_after m setup journal) event view view.stand its differs at.agrees)
            (arrival_other m good setup (last_decided m setup journal) (run_after m setup journal) event view
            (step_of (run_after m setup journal).core event (place (run_after m setup journal) (actor event)) (will_be_filled m setup (run_after m setup journal) (actor event)) its)
            differs at.decided);
        acted = λ fails. any_more (λ e. actor e == view.rank) journal event (at.acted fails);
      }

  -- after a rank's turn all ranks have made all their turns
  pub all_at : (old new : List Event) (ranks : List (RankView L)) (rank : ℕ) (view : RankView L) → is_journal m setup new ≡ true → rank < length ranks
      → AreAt m good setup old ranks → Grew m good setup rank old new → view.rank ≡ rank → IsAt m good setup new view
      → AreAt m good setup new (slice_set ranks rank view)
  all_at old new ranks rank view legal within at turned its_rank its_at = record {
    every = length-set ranks rank view ∙ at.every;
    its = λ other default below. by_rank other default (omega (arith, below, length-set ranks rank view)) (cases_eq other rank);
  }
    where
      still : (other : RankView L) → other.rank ≢ rank → IsAt m good setup old other → Grew m good setup rank old new → IsAt m good setup new other
      still other differs before (inl (event, (more, turn))) =
          let P : List Event → Type 0 = λ j. IsAt m good setup j other in
          let Q : List Event → Type 0 = λ j. is_journal m setup j ≡ true in
          subst P (sym more) (stays_at old event other (subst Q more legal) (λ same. differs (same ∙ turn.its)) before)
      still other differs before (inr (same, none)) = let P : List Event → Type 0 = λ j. IsAt m good setup j other in subst P (sym same) before

      by_rank : (other : ℕ) (default : RankView L) → other < length ranks → (other ≡ rank) ⊎ (other ≡ rank → ⊥)
          → ((get_or (slice_set ranks rank view) other default).rank ≡ other) × IsAt m good setup new (get_or (slice_set ranks rank view) other default)
      by_rank other default below (inl same) =
          let P : RankView L → Type 0 = λ v. (v.rank ≡ other) × IsAt m good setup new v in
          let here : get_or (slice_set ranks rank view) other default ≡ view =
          let Q : ℕ → Type 0 = λ r. get_or (slice_set ranks rank view) r default ≡ view in subst Q (sym same) (get_or-set_same ranks rank view default within) in
          subst P (sym here) (its_rank ∙ sym same, its_at)
      by_rank other default below (inr differs) =
          let P : RankView L → Type 0 = λ v. (v.rank ≡ other) × IsAt m good setup new v in
          let before : ((get_or ranks other default).rank ≡ other) × IsAt m good setup old (get_or ranks other default) = at.its other default below in
          subst P (sym (get_or-set_other ranks rank other view default differs))
          (before.0, still (get_or ranks other default) (λ same. differs (sym before.0 ∙ same)) before.1 turned)
