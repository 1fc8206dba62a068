-- The epoch that was decided last began with good locals.
use Rattle.std.proofs.Common.{◌≡◌, ℕ, Bool, true, false, List, [], ◌∷◌, ◌++◌, refl, sym, subst, ◌∙◌}
use Rattle.std.specs.Prelude.{if◌then◌else◌}
use Rattle.std.proofs.lemmas.Bool.{and_parts}
use Rattle.std.proofs.lemmas.List.{append_assoc}
use Rattle.bf_program.specs.declared.epoch.Epoch.{Epoch}
use Rattle.bf_program.specs.Meanings.{Meanings}
use Rattle.bf_core.specs.declared.event.Event.{Event}
use Rattle.bf_core.specs.declared.event.Event.TheVariants.{Send, Recv, Arrive, Leave, Die}
use Rattle.bf_world.specs.Runs.{Run, run_happened, opening_run, run_after, is_journal}
use Rattle.bf_world.specs.Worlds.{brings_decision}
use Rattle.bf_world.proofs.RunLemmas.{run_joined, journal_joined}
use Rattle.bf_rank.specs.Ranks.{decided_from, last_decided}

module _ {S L M T R : Type 0} (m : Meanings S L M T R) (good : S → Epoch → ℕ → List L → Type 0) (setup : S) where
  abbrev BeganGood : Run L T → Type 0
  BeganGood run = good setup run.core.epoch 0 run.start

  happened_good : (run : Run L T) (event : Event) → BeganGood run → BeganGood (run_happened m setup run event)
  happened_good run (Send rank to blocks sum) began = began
  happened_good run (Recv rank peer) began = began
  happened_good run (Arrive rank how) began = began
  happened_good run (Leave rank) began = began
  happened_good run (Die rank) began = began

  module _ (begins : (journal : List Event) → is_journal m setup journal ≡ true → BeganGood (run_after m setup journal)) where
    from_good : (told events : List Event) (before : Run L T) → is_journal m setup (told ++ events) ≡ true → BeganGood before
        → BeganGood (decided_from m setup (run_after m setup told) events before)
    from_good told [] before legal began = began
    from_good told (event ∷ events) before legal began =
        let one : told ++ event ∷ events ≡ (told ++ event ∷ []) ++ events = sym (append_assoc told (event ∷ []) events) in
        let here : is_journal m setup told ≡ true = (and_parts (is_journal m setup told) _ (sym (journal_joined m setup told (event ∷ events)) ∙ legal)).0 in
        let decided : Run L T = if brings_decision m setup (run_after m setup told) event then run_happened m setup (run_after m setup told) event else before in
        subst (λ (run : Run L T). BeganGood (decided_from m setup run events decided)) (run_joined m setup told (event ∷ []))
        (from_good (told ++ event ∷ []) events decided (subst (λ journal. is_journal m setup journal ≡ true) one legal)
        (at here (brings_decision m setup (run_after m setup told) event)))
      where
        at : is_journal m setup told ≡ true → (b : Bool) → BeganGood (if b then run_happened m setup (run_after m setup told) event else before)
        at here true = happened_good (run_after m setup told) event (begins told here)
        at here false = began

    pub decided_good : (journal : List Event) → is_journal m setup journal ≡ true → BeganGood (last_decided m setup journal)
    unfolding last_decided run_after is_journal
    decided_good journal legal = from_good [] journal (opening_run m setup) legal (begins [] refl)
