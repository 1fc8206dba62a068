-- Reading line by line comes to what the lines spell.
use Rattle.std.proofs.Common.{◌≡◌, ℕ, ◌+◌, ◌<◌, ◌≤◌, Bool, true, false, cond, List, [], ◌∷◌, ◌++◌, Some, None, Result, Ok, Err, length, refl, sym, ap, subst, ◌∙◌, arith}
use Rattle.std.specs.List.{list_all, range_with_len}
use Rattle.bf_case.specs.declared.case.Case.{Case}
use Rattle.bf_case.specs.declared.case.Fill.{Fill}
use Rattle.bf_text.specs.declared.code.Code.{Code}
use Rattle.bf_text.specs.declared.code.Code.TheVariants as code
use Rattle.bf_text.specs.declared.code.CaseFault.{CaseFault}
use Rattle.bf_text.specs.declared.code.CaseFault.TheVariants as fault
use Rattle.bf_text.specs.declared.form.Form.TheVariants as form
use Rattle.bf_text.specs.declared.head.Head.{Head}
use Rattle.bf_text.specs.declared.draft.Draft.{Draft}
use Rattle.bf_text.specs.Lines.{is_plain, lines_of, content_of, words_of}
use Rattle.bf_text.specs.Forms.{form_of}
use Rattle.bf_text.specs.Entries.{Entry, entries_from, with_entry, numbers_of, came, head_of, fills_of, order_of, deaths_of, listed, case_with, case_of}
use Rattle.bf_text.specs.Faults.{known_of, cause_of}
use Rattle.bf_text.specs.Reading.{refusal, refused_or, reading_after, reading_of_lines, IsReadingOf}
use Rattle.bf_text.specs.Drafts.{known_in, blank_outline, deaths_in, fills_in, order_in, TakesEntry, IsSameDraft, TakesWords, IsFaultOfWords, TakesLine, IsFaultOfLine, IsFinished}
use Rattle.bf_text.proofs.RangeLemmas.{flat_same}
use Rattle.bf_text.proofs.OutlineLemmas.{Agrees, same_known}
use Rattle.bf_text.proofs.AgreeLemmas.{agrees_more, agrees_blank}

-- the draft holds these lines, the last one first
pub record Holds (d : Draft) (before : List Entry) : Type 0 where
  pub agrees : Agrees d.outline before
  pub fills : d.fills.items ≡ fills_of before
  pub order : d.order.items ≡ order_of before

-- so many lines are read, the draft holds them, and the rest of the bytes decides what all of them spell
pub record Reads (bytes : List ℕ) (d : Draft) (rest : List ℕ) (number : ℕ) : Type 0 where
  pub before : List Entry
  pub holds : Holds d before
  pub left : reading_after (number + length (lines_of rest) + 1) before (entries_from (number + 1) (lines_of rest)) ≡ reading_of_lines (lines_of bytes)
  pub few : number + length rest ≤ length bytes

pub reads_none : (bytes : List ℕ) (d : Draft) → d.outline ≡ blank_outline → d.fills.items ≡ [] → d.order.items ≡ [] → Reads bytes d bytes 0
reads_none bytes d outline fills order = record {
  before = [];
  holds = record { agrees = subst (λ o. Agrees o []) (sym outline) agrees_blank; fills = fills; order = order };
  left = ap (λ n. reading_after (n + 1) [] (entries_from 1 (lines_of bytes))) (let e : 0 + length (lines_of bytes) ≡ length (lines_of bytes) = omega arith in e);
  few = omega arith;
}

-- ---- one more line

holds_more : (old new : Draft) (before : List Entry) (e : Entry) → Holds old before → TakesEntry old new e → Holds new (e ∷ before)
holds_more old new before e h t = record {
  agrees = subst (λ o. Agrees o (e ∷ before)) (sym t.adds.outline) (agrees_more old.outline before e h.agrees t.sound);
  fills = t.adds.fills ∙ ap (λ (fs : List Fill). fs ++ fills_in e.form (numbers_of e)) h.fills;
  order = t.adds.order ∙ ap (λ (rs : List ℕ). rs ++ order_in e.form (numbers_of e)) h.order;
}

holds_same : (old new : Draft) (before : List Entry) → Holds old before → IsSameDraft old new → Holds new before
holds_same old new before h s = record {
  agrees = subst (λ o. Agrees o before) (sym s.outline) h.agrees;
  fills = s.fills ∙ h.fills;
  order = s.order ∙ h.order;
}

pub sound_goes_on : (last : ℕ) (before : List Entry) (e : Entry) (es : List Entry) → cause_of (known_of before) e ≡ None
    → reading_after last before (e ∷ es) ≡ reading_after last (e ∷ before) es
unfolding reading_after
sound_goes_on last before e es none = ap (λ c. refused_or e.line c (reading_after last (e ∷ before) es)) none

pub fault_ends : (last : ℕ) (before : List Entry) (e : Entry) (es : List Entry) (cause : Code) → cause_of (known_of before) e ≡ Some cause
    → reading_after last before (e ∷ es) ≡ Err (refusal e.line cause)
unfolding reading_after
fault_ends last before e es cause some = ap (λ c. refused_or e.line c (reading_after last (e ∷ before) es)) some

cause_same : (d : Draft) (before : List Entry) (e : Entry) → Holds d before → cause_of (known_of before) e ≡ cause_of (known_in d.outline) e
cause_same d before e h = ap (λ k. cause_of k e) (sym (same_known d.outline before h.agrees))

step_words : (old new : Draft) (others : List ℕ) (number last : ℕ) (bytes : List ℕ) (before : List Entry) (is_text : Bool) (words : List (List ℕ))
    → Holds old before
    → reading_after last before (with_entry number is_text words (entries_from (number + 1) (lines_of others))) ≡ reading_of_lines (lines_of bytes)
    → last ≡ number + length (lines_of others) + 1 → number + length others ≤ length bytes
    → TakesWords old new number is_text words → Reads bytes new others number
step_words old new others number last bytes before is_text [] h left end few t = record {
  before = before;
  holds = holds_same old new before h t;
  left = ap (λ n. reading_after n before (entries_from (number + 1) (lines_of others))) (sym end) ∙ left;
  few = few;
}
step_words old new others number last bytes before is_text (w ∷ words) h left end few t =
    let e : Entry = record { line = number; is_text = is_text; form = form_of w; arguments = words } in
    let none = cause_same old before e h ∙ t.sound in
    record {
      before = e ∷ before;
      holds = holds_more old new before e h t;
      left = ap (λ n. reading_after n (e ∷ before) (entries_from (number + 1) (lines_of others))) (sym end)
          ∙ sym (sound_goes_on last before e (entries_from (number + 1) (lines_of others)) none) ∙ left;
      few = few;
    }

-- the rest by its first line
left_of_line : (bytes rest line : List ℕ) (ls : List (List ℕ)) (number : ℕ) (before : List Entry) → lines_of rest ≡ line ∷ ls
    → reading_after (number + length (lines_of rest) + 1) before (entries_from (number + 1) (lines_of rest)) ≡ reading_of_lines (lines_of bytes)
    → reading_after (number + length (line ∷ ls) + 1) before (entries_from (number + 1) (line ∷ ls)) ≡ reading_of_lines (lines_of bytes)
left_of_line bytes rest line ls number before e left =
    subst (λ (all : List (List ℕ)). reading_after (number + length all + 1) before (entries_from (number + 1) all) ≡ reading_of_lines (lines_of bytes)) e left

pub reads_more : (bytes rest line others : List ℕ) (old new : Draft) (number : ℕ) → Reads bytes old rest number → lines_of rest ≡ line ∷ lines_of others
    → length others < length rest → TakesLine old new (number + 1) line → Reads bytes new others (number + 1)
reads_more bytes rest line others old new number r lines shorter t =
    step_words old new others (number + 1) (number + length (line ∷ lines_of others) + 1) bytes r.before
    (list_all is_plain (content_of line)) (words_of (content_of line)) r.holds
    (left_of_line bytes rest line (lines_of others) number r.before lines r.left)
    (omega arith) (let few = r.few in omega arith) t

-- ---- the outcome

fault_words : (d : Draft) (number last : ℕ) (bytes : List ℕ) (before es : List Entry) (is_text : Bool) (words : List (List ℕ)) (f : CaseFault)
    → Holds d before → reading_after last before (with_entry number is_text words es) ≡ reading_of_lines (lines_of bytes)
    → IsFaultOfWords (known_in d.outline) number is_text words f → IsReadingOf (reading_of_lines (lines_of bytes)) (Err f)
fault_words d number last bytes before es is_text [] f h left is =
    subst (λ g. IsReadingOf (reading_of_lines (lines_of bytes)) (Err g)) (sym is) tt
fault_words d number last bytes before es is_text (w ∷ words) fault.Memory h left is = tt
fault_words d number last bytes before es is_text (w ∷ words) (fault.Refused r) h left is =
    let e : Entry = record { line = number; is_text = is_text; form = form_of w; arguments = words } in
    sym left ∙ fault_ends last before e es r.code (cause_same d before e h ∙ is.0)
    ∙ ap (λ n. Err (refusal n r.code)) (sym is.1)

pub reads_fault : (bytes rest line : List ℕ) (ls : List (List ℕ)) (d : Draft) (number : ℕ) (f : CaseFault) → Reads bytes d rest number → lines_of rest ≡ line ∷ ls
    → IsFaultOfLine (known_in d.outline) (number + 1) line f → IsReadingOf (reading_of_lines (lines_of bytes)) (Err f)
reads_fault bytes rest line ls d number f r lines is =
    fault_words d (number + 1) (number + length (line ∷ ls) + 1) bytes r.before (entries_from (number + 1 + 1) ls)
    (list_all is_plain (content_of line)) (words_of (content_of line)) f r.holds
    (left_of_line bytes rest line ls number r.before lines r.left) is

pub at_end : (last : ℕ) (before : List Entry) → reading_after last before [] ≡ cond (came form.End before) (Ok (case_of before)) (Err (refusal last code.NoEnd))
unfolding reading_after
at_end last before = refl

same_deaths : (d : Draft) (before : List Entry) → Holds d before → deaths_in d.outline.deaths ≡ deaths_of before
same_deaths d before h = flat_same _ _ (range_with_len 0 16) (λ rank. ap (listed rank) (h.agrees.deaths rank))

finish_is : (d : Draft) (before : List Entry) (last : ℕ) (r : Result Case CaseFault) → Holds d before → IsFinished d last r → IsReadingOf (reading_after last before []) r
finish_is d before last (Err fault.Memory) h is = tt
finish_is d before last (Err (fault.Refused r)) h is =
    let ended : came form.End before ≡ false = sym h.agrees.end ∙ is.0 in
    at_end last before ∙ ap (λ b. cond b (Ok (case_of before)) (Err (refusal last code.NoEnd))) ended ∙ ap (λ x. Err x) (sym is.1)
finish_is d before last (Ok c) h is =
    let ended : came form.End before ≡ true = sym h.agrees.end ∙ is.0 in
    let same : c ≡ case_of before =
    is.1
    ∙ ap (λ (x : Head). case_with x d.fills.items (deaths_in d.outline.deaths) d.order.items) h.agrees.numbers
    ∙ ap (λ (x : List Fill). case_with (head_of before) x (deaths_in d.outline.deaths) d.order.items) h.fills
    ∙ ap (λ (x : List (ℕ × ℕ)). case_with (head_of before) (fills_of before) x d.order.items) (same_deaths d before h)
    ∙ ap (λ (x : List ℕ). case_with (head_of before) (fills_of before) (deaths_of before) x) h.order in
    at_end last before ∙ ap (λ b. cond b (Ok (case_of before)) (Err (refusal last code.NoEnd))) ended ∙ ap (λ x. Ok x) (sym same)

pub reads_all : (bytes rest : List ℕ) (d : Draft) (number : ℕ) (r : Result Case CaseFault) → Reads bytes d rest number → lines_of rest ≡ []
    → IsFinished d (number + 1) r → IsReadingOf (reading_of_lines (lines_of bytes)) r
reads_all bytes rest d number r reads none finished =
    let left = subst (λ (all : List (List ℕ)). reading_after (number + length all + 1) reads.before (entries_from (number + 1) all) ≡ reading_of_lines (lines_of bytes)) none reads.left in
    let last : number + 0 + 1 ≡ number + 1 = omega arith in
    subst (λ s. IsReadingOf s r) (ap (λ n. reading_after n reads.before []) (sym last) ∙ left) (finish_is d reads.before (number + 1) r reads.holds finished)
