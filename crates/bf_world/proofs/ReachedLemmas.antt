-- Every journal leads the state machine from its opening, so the laws of the state machine hold of its core.
use Rattle.std.proofs.Common.{◌≡◌, ℕ, true, List, [], ◌∷◌, refl, sym, ◌∙◌, ap}
use Rattle.std.proofs.lemmas.Bool.{and_parts, and_from}
use Rattle.bf_program.specs.Meanings.{Meanings}
use Rattle.bf_program.specs.Laws.{KeepsLimits, KeepsGood, KeepsStored}
use Rattle.bf_program.specs.declared.epoch.Epoch.{Epoch}
use Rattle.bf_core.specs.declared.event.Event.{Event}
use Rattle.bf_core.specs.Legal.{actor, is_legal}
use Rattle.bf_core.specs.Journals.{Move, after, are_legal}
use Rattle.bf_core.specs.Orders.{IsReached}
use Rattle.bf_world.specs.Runs.{Run, place, will_be_filled, opening_run, next_run, is_legal_in, run_from, is_legal_from, run_after, is_journal}
use Rattle.bf_world.proofs.LawfulLemmas.{core_next}

module _ {S L M T R : Type 0} (m : Meanings S L M T R) (setup : S) where
  -- the events of a journal, with the places at which their ranks stand
  unfoldable pub moves_from : Run L T → List Event → List Move
  moves_from run [] = []
  moves_from run (event ∷ events) =
      record { event = event; place = place run (actor event); filled = will_be_filled m setup run (actor event) } ∷ moves_from (next_run m setup run event) events

module _ {S L M T R : Type 0} (m : Meanings S L M T R) (good : S → Epoch → ℕ → List L → Type 0) (setup : S)
    (goods : KeepsGood m good setup) (stores : KeepsStored m good setup) where
  moves_lead : (run : Run L T) (journal : List Event) → (run_from m setup run journal).core ≡ after run.core (moves_from m setup run journal)
  unfolding moves_from
  moves_lead run [] = refl
  moves_lead run (event ∷ events) =
      moves_lead (next_run m setup run event) events
      ∙ ap (λ state. after state (moves_from m setup (next_run m setup run event) events)) (core_next m good setup goods stores run event)

  moves_legal : (run : Run L T) (journal : List Event) → is_legal_from m setup run journal ≡ true → are_legal run.core (moves_from m setup run journal) ≡ true
  unfolding moves_from is_legal_in
  moves_legal run [] legal = refl
  moves_legal run (event ∷ events) legal =
      let first : is_legal_in m setup run event ≡ true = (and_parts (is_legal_in m setup run event) _ legal).0 in
      and_from (is_legal run.core event (place run (actor event))) _ (and_parts (is_legal run.core event (place run (actor event))) _ first).0
      (ap (λ state. are_legal state (moves_from m setup (next_run m setup run event) events)) (sym (core_next m good setup goods stores run event))
      ∙ moves_legal (next_run m setup run event) events (and_parts (is_legal_in m setup run event) _ legal).1)

  pub after_reached : KeepsLimits m setup → (journal : List Event) → is_journal m setup journal ≡ true → IsReached (run_after m setup journal).core
  unfolding run_after is_journal opening_run
  after_reached limits journal legal = record {
    ranks = m.ranks setup;
    filled = m.laid setup;
    deaths = m.deaths setup;
    shift = m.shift setup;
    steps = m.steps setup;
    interval = m.interval setup;
    some_rank = limits.some_rank;
    moves = moves_from m setup (opening_run m setup) journal;
    legal = moves_legal (opening_run m setup) journal legal;
    reached = moves_lead (opening_run m setup) journal;
  }
