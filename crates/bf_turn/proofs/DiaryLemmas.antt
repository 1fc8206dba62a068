-- The notes of one writer among those of several.
use Rattle.std.proofs.Common.{◌≡◌, ℕ, ◌≤◌, ◌≢◌, List, [], ◌∷◌, ◌++◌, cond, arith, refl, ap, ◌∙◌, eq-eqb, ne_eqb}
use Rattle.bf_turn.specs.declared.diary.Note.{Note}
use Rattle.bf_turn.specs.Logs.{entries_of, HasJust}
use Rattle.bf_turn.specs.Diaries.{writer_of, notes_of}
use Rattle.bf_turn.proofs.LogLemmas.{entries-append_none, none-entries-append}

-- the notes of a writer are its own, and nobody else's
entries-notes_of : (writer : ℕ) (texts : List ℕ) → entries_of writer_of writer (notes_of writer texts) ≡ notes_of writer texts
entries-notes_of writer [] = refl
entries-notes_of writer (text ∷ texts) =
    let own : List Note = entries_of writer_of writer (notes_of writer texts) in
    let first : Note = record { writer = writer; text = text } in
    ap (λ b. cond b (first ∷ own) own) (eq-eqb writer writer refl) ∙ ap (λ notes. first ∷ notes) (entries-notes_of writer texts)

entries-notes_of_another : (other writer : ℕ) → writer ≢ other → (texts : List ℕ) → entries_of writer_of other (notes_of writer texts) ≡ []
entries-notes_of_another other writer ne [] = refl
entries-notes_of_another other writer ne (text ∷ texts) =
    let own : List Note = entries_of writer_of other (notes_of writer texts) in
    let first : Note = record { writer = writer; text = text } in
    ap (λ b. cond b (first ∷ own) own) (ne_eqb writer other ne) ∙ entries-notes_of_another other writer ne texts

module _ (one two : List ℕ) (log : List Note) (just : HasJust writer_of (notes_of 0 one ++ notes_of 1 two) log) where
  pub firsts : entries_of writer_of 0 log ≡ notes_of 0 one
  firsts = just 0
      ∙ entries-append_none writer_of 0 (notes_of 0 one) (notes_of 1 two) (entries-notes_of_another 0 1 (λ e. omega (arith, e)) two)
      ∙ entries-notes_of 0 one

  pub seconds : entries_of writer_of 1 log ≡ notes_of 1 two
  seconds = just 1
      ∙ none-entries-append writer_of 1 (notes_of 0 one) (notes_of 1 two) (entries-notes_of_another 1 0 (λ e. omega (arith, e)) one)
      ∙ entries-notes_of 1 two

  pub nobodys : (writer : ℕ) → 2 ≤ writer → entries_of writer_of writer log ≡ []
  nobodys writer over = just writer
      ∙ none-entries-append writer_of writer (notes_of 0 one) (notes_of 1 two) (entries-notes_of_another writer 0 (λ e. omega (arith, e, over)) one)
      ∙ entries-notes_of_another writer 1 (λ e. omega (arith, e, over)) two
