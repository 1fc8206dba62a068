-- Reading goes along the lines of a canonical text.
use Rattle.std.proofs.Common.{◌≡◌, ℕ, ◌+◌, ◌-◌, ◌<◌, ◌^◌, Bool, true, false, ◌||◌, ltb, eqb, List, [], ◌∷◌, ◌++◌, None, Result, length, map, get_or, refl, sym, ap, subst, ◌∙◌, append_assoc, arith}
use Rattle.std.specs.Prelude.{decimal}
use Rattle.std.specs.List.{list_all, find, before_first, position_or_len}
use Rattle.std.specs.Str.Lines.{strip_carriage_return}
use Rattle.std.specs.Str.Parse.{digits_value}
use Rattle.std.proofs.lemmas.Bool.{and_parts, and_from, ltb-true, ne_eqb}
use Rattle.std.proofs.lemmas.List.{take_all, length-map}
use Rattle.std.proofs.lemmas.List.Sums.{AllPass-from_list_all, position_or_len_is}
use Rattle.bf_case.specs.declared.case.Case.{Case}
use Rattle.bf_case.specs.declared.case.Fill.{Fill}
use Rattle.bf_case.specs.CaseText.{spaced, line}
use Rattle.bf_text.specs.declared.code.Refusal.{Refusal}
use Rattle.bf_text.specs.declared.form.Form.{Form}
use Rattle.bf_text.specs.declared.form.Form.TheVariants as form
use Rattle.bf_text.specs.declared.outline.Outline.{Outline}
use Rattle.bf_text.specs.Codes.{word_codes, number_codes}
use Rattle.bf_text.specs.Lines.{is_feed, is_hash, is_plain, without_empty_end, lines_of, content_of, words_of}
use Rattle.bf_text.specs.Forms.{form_of, takes}
use Rattle.bf_text.specs.Entries.{Entry, entries_from, with_entry, is_number, numbers_of, fills_of, order_of}
use Rattle.bf_text.specs.Faults.{known_of, is_header, is_missing, has_word_cause, has_number_cause, cause_of}
use Rattle.bf_text.specs.Reading.{reading_after}
use Rattle.bf_text.specs.Drafts.{came_below, known_in, outline_with, fills_in, order_in}
use Rattle.bf_text.proofs.LineLemmas.{keep_split}
use Rattle.bf_text.proofs.OutlineLemmas.{Agrees, same_known}
use Rattle.bf_text.proofs.AgreeLemmas.{agrees_more}
use Rattle.bf_text.proofs.ReadLemmas.{sound_goes_on}
use Rattle.bf_text.proofs.TextLemmas.{is_letter, is_spaced, split_after, all_append, all_weaker, letter_is_spaced, spaced_cases, spaced_passes, words_again, number_passes, value_again, spaced_plain}

-- ---- one line

not_return : (xs : List ℕ) → list_all is_spaced xs ≡ true → eqb (get_or xs (length xs - 1) 0) 13 ≡ false
not_return [] all = refl
not_return (x ∷ xs) all =
    let at = AllPass-from_list_all is_spaced (x ∷ xs) all (length (x ∷ xs) - 1) 0 (omega arith) in
    ne_eqb _ 13 (spaced_cases _ at).1.0

content_again : (xs : List ℕ) → list_all is_spaced xs ≡ true → content_of xs ≡ xs
content_again xs all =
    let strip : strip_carriage_return xs ≡ xs = rw (not_return xs all) refl in
    let place : position_or_len is_hash xs ≡ length xs =
    position_or_len_is is_hash xs (length xs) 0 (omega arith)
    (λ k within. ne_eqb (get_or xs k 0) 35 (spaced_cases (get_or xs k 0) (AllPass-from_list_all is_spaced xs all k 0 within)).1.1) (λ within. absurd (omega arith)) in
    ap (before_first is_hash) strip ∙ take_all (position_or_len is_hash xs) xs (omega arith)

-- words that a line of the text is made of
pub record IsLine (w ns : List ℕ) : Type 0 where
  pub some : 0 < length w
  pub letters : list_all is_letter w ≡ true
  pub small : list_all (λ n. ltb n (2 ^ 32)) ns ≡ true

line_bytes : (w ns : List ℕ) → IsLine w ns → list_all is_spaced (w ++ spaced ns) ≡ true
line_bytes w ns l = all_append is_spaced w (spaced ns) (all_weaker is_letter is_spaced letter_is_spaced w l.letters) (spaced_passes ns l.small)

line_apart : (w s rest : List ℕ) → (w ++ (s ++ 10 ∷ [])) ++ rest ≡ (w ++ s) ++ 10 ∷ rest
line_apart w s rest = simp append_assoc

abbrev pub entry : ℕ → Form → List ℕ → Entry
entry number f ns = record { line = number; is_text = true; form = f; arguments = map decimal ns }

lines_again : (w ns rest : List ℕ) → IsLine w ns → lines_of (line w ns ++ rest) ≡ (w ++ spaced ns) ∷ lines_of rest
lines_again w ns rest l =
    ap lines_of (line_apart w (spaced ns) rest)
    ∙ ap without_empty_end (split_after is_feed is_spaced (λ b e. ne_eqb b 10 (spaced_cases b e).0) (w ++ spaced ns) 10 rest (line_bytes w ns l) refl)
    ∙ keep_split is_feed (w ++ spaced ns) rest

entries_line : (w ns rest : List ℕ) (f : Form) (number : ℕ) → IsLine w ns → form_of w ≡ f
    → entries_from number (lines_of (line w ns ++ rest)) ≡ entry number f ns ∷ entries_from (number + 1) (lines_of rest)
entries_line w ns rest f number l is =
    ap (entries_from number) (lines_again w ns rest l)
    ∙ ap (λ (content : List ℕ). with_entry number (list_all is_plain content) (words_of content) (entries_from (number + 1) (lines_of rest))) (content_again (w ++ spaced ns) (line_bytes w ns l))
    ∙ ap (λ (b : Bool). with_entry number b (words_of (w ++ spaced ns)) (entries_from (number + 1) (lines_of rest)))
    (all_weaker is_spaced is_plain spaced_plain (w ++ spaced ns) (line_bytes w ns l))
    ∙ ap (λ (ws : List (List ℕ)). with_entry number true ws (entries_from (number + 1) (lines_of rest))) (words_again w ns l.some l.letters l.small)
    ∙ ap (λ (g : Form). entry number g ns ∷ entries_from (number + 1) (lines_of rest)) is

numbers_pass : (ns : List ℕ) → list_all (λ n. ltb n (2 ^ 32)) ns ≡ true → list_all is_number (map decimal ns) ≡ true
numbers_pass [] all = refl
numbers_pass (n ∷ ns) all =
    let parts = and_parts (ltb n (2 ^ 32)) (list_all (λ m. ltb m (2 ^ 32)) ns) all in
    and_from (is_number (decimal n)) (list_all is_number (map decimal ns)) (number_passes n (ltb-true n (2 ^ 32) parts.0)) (numbers_pass ns parts.1)

numbers_again : (ns : List ℕ) → list_all (λ n. ltb n (2 ^ 32)) ns ≡ true → map (digits_value 10) (map decimal ns) ≡ ns
numbers_again [] all = refl
numbers_again (n ∷ ns) all =
    let parts = and_parts (ltb n (2 ^ 32)) (list_all (λ m. ltb m (2 ^ 32)) ns) all in
    ap (λ m. m ∷ map (digits_value 10) (map decimal ns)) (value_again n (ltb-true n (2 ^ 32) parts.0)) ∙ ap (λ ms. n ∷ ms) (numbers_again ns parts.1)

-- ---- a line without a cause

pub record IsSound (o : Outline) (f : Form) (ns : List ℕ) : Type 0 where
  pub header : (came_below o.next form.Forest || is_header f (map decimal ns)) ≡ true
  pub unended : o.ended ≡ false
  pub placed : is_missing (came_below o.next) f ≡ false
  pub fresh : came_below o.next f ≡ false
  pub counted : takes f (length ns) ≡ true
  pub fits : find (has_number_cause (known_in o) f ns) number_codes ≡ None

sound_words : (o : Outline) (f : Form) (ns : List ℕ) (number : ℕ) → list_all (λ n. ltb n (2 ^ 32)) ns ≡ true → IsSound o f ns
    → find (has_word_cause (known_in o) (entry number f ns)) word_codes ≡ None
sound_words o f ns number small s =
    let count : takes f (length (map decimal ns)) ≡ true = ap (takes f) (length-map ns decimal) ∙ s.counted in
    let header = s.header in let unended = s.unended in let placed = s.placed in let fresh = s.fresh in
    rw (header, unended, placed, fresh, count, numbers_pass ns small) refl

sound_cause : (o : Outline) (f : Form) (ns : List ℕ) (number : ℕ) → list_all (λ n. ltb n (2 ^ 32)) ns ≡ true → IsSound o f ns
    → cause_of (known_in o) (entry number f ns) ≡ None
sound_cause o f ns number small s =
    let words = sound_words o f ns number small s in
    let numbers : find (has_number_cause (known_in o) f (map (digits_value 10) (map decimal ns))) number_codes ≡ None =
    ap (λ (ms : List ℕ). find (has_number_cause (known_in o) f ms) number_codes) (numbers_again ns small) ∙ s.fits in
    rw words numbers

-- ---- the way

-- so many lines are read, and the rest decides
pub record Reaches (last : ℕ) (start : Result Case Refusal) (o : Outline) (fills : List Fill) (order : List ℕ) (number : ℕ) (rest : List ℕ) : Type 0 where
  pub before : List Entry
  pub agrees : Agrees o before
  pub fills_are : fills_of before ≡ fills
  pub order_is : order_of before ≡ order
  pub left : reading_after last before (entries_from number (lines_of rest)) ≡ start

pub step : (last : ℕ) (start : Result Case Refusal) (o : Outline) (fills : List Fill) (order : List ℕ) (number : ℕ) (w ns rest : List ℕ) (f : Form)
    → form_of w ≡ f → IsLine w ns → IsSound o f ns → Reaches last start o fills order number (line w ns ++ rest)
    → Reaches last start (outline_with o f ns) (fills ++ fills_in f ns) (order ++ order_in f ns) (number + 1) rest
step last start o fills order number w ns rest f is l s r =
    let e = entry number f ns in
    let again = numbers_again ns l.small in
    let none = sound_cause o f ns number l.small s in
    let none_before : cause_of (known_of r.before) e ≡ None = ap (λ k. cause_of k e) (sym (same_known o r.before r.agrees)) ∙ none in
    record {
      before = e ∷ r.before;
      agrees = subst (λ (ms : List ℕ). Agrees (outline_with o f ms) (e ∷ r.before)) again (agrees_more o r.before e r.agrees none);
      fills_are = ap (λ (fs : List Fill). fs ++ fills_in f (numbers_of e)) r.fills_are ∙ ap (λ (ms : List ℕ). fills ++ fills_in f ms) again;
      order_is = ap (λ (os : List ℕ). os ++ order_in f (numbers_of e)) r.order_is ∙ ap (λ (ms : List ℕ). order ++ order_in f ms) again;
      left = sym (sound_goes_on last r.before e (entries_from (number + 1) (lines_of rest)) none_before)
          ∙ ap (reading_after last r.before) (sym (entries_line w ns rest f number l is)) ∙ r.left;
    }
