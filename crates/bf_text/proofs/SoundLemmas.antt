-- Lines that were read without a fault, and which headings they have.
use Rattle.std.proofs.Common.{◌≡◌, ℕ, ◌<◌, ◌≤◌, Bool, true, false, ◌&&◌, ◌||◌, cond, ltb, List, [], ◌∷◌, Option, Some, None, Ok, Err, get_or, refl, sym, ap, subst, ◌∙◌, arith, lit<}
use Rattle.std.proofs.lemmas.Bool.{leb-true, ltb-true, ltb-false, lt-ltb, eqb-true, and_parts}
use Rattle.bf_case.specs.declared.case.Case.{Case}
use Rattle.bf_text.specs.declared.code.Code.{Code}
use Rattle.bf_text.specs.declared.code.Code.TheVariants as code
use Rattle.bf_text.specs.declared.form.Form.{Form}
use Rattle.bf_text.specs.declared.form.Form.TheVariants as form
use Rattle.bf_text.specs.declared.outline.Outline.{Outline}
use Rattle.bf_text.specs.Codes.{word_codes}
use Rattle.bf_text.specs.Forms.{place_of, same_form, is_heading}
use Rattle.bf_text.specs.Entries.{Entry, numbers_of, number_at, came, given, case_of}
use Rattle.bf_text.specs.Faults.{known_of, is_missing, has_word_cause, cause_of}
use Rattle.bf_text.specs.Reading.{refusal, reading_after}
use Rattle.bf_text.specs.Drafts.{came_below, known_in, due_place, outline_with, blank_outline}
use Rattle.bf_text.proofs.ClearLemmas.{clear_at, clear_parts}
use Rattle.bf_text.proofs.MissingLemmas.{missing_is}
use Rattle.bf_text.proofs.OutlineLemmas.{Agrees, same_known, heading_next}
use Rattle.bf_text.proofs.AgreeLemmas.{agrees_more, agrees_blank}
use Rattle.bf_text.proofs.ReadLemmas.{sound_goes_on, fault_ends, at_end}

-- no line has a cause after those before it; the last one stands first
abbrev pub AreSound : List Entry → Type 0
AreSound [] = Unit {0}
AreSound (e ∷ before) = (cause_of (known_of before) e ≡ None) × AreSound before

-- ---- lines that give a case

pub record Gives (c : Case) : Type 0 where
  pub lines : List Entry
  pub sound : AreSound lines
  pub ended : came form.End lines ≡ true
  pub is : c ≡ case_of lines

goes_on : (last : ℕ) (before : List Entry) (e : Entry) (es : List Entry) (c : Case) (cause : Option Code) → cause_of (known_of before) e ≡ cause
    → reading_after last before (e ∷ es) ≡ Ok c → (cause_of (known_of before) e ≡ None) × (reading_after last (e ∷ before) es ≡ Ok c)
goes_on last before e es c None is read = (is, sym (sound_goes_on last before e es is) ∙ read)
goes_on last before e es c (Some cause) is read =
    absurd (let no : Err (refusal e.line cause) ≡ Ok c = sym (fault_ends last before e es cause is) ∙ read in cc)

ends : (last : ℕ) (before : List Entry) (c : Case) (b : Bool) → came form.End before ≡ b → reading_after last before [] ≡ Ok c
    → (came form.End before ≡ true) × (c ≡ case_of before)
ends last before c true is read =
    let same : Ok (case_of before) ≡ Ok c = sym (at_end last before ∙ ap (λ b. cond b (Ok (case_of before)) (Err (refusal last code.NoEnd))) is) ∙ read in (is, cc)
ends last before c false is read =
    absurd (let no : Err (refusal last code.NoEnd) ≡ Ok c = sym (at_end last before ∙ ap (λ b. cond b (Ok (case_of before)) (Err (refusal last code.NoEnd))) is) ∙ read in cc)

pub gives : (last : ℕ) (before entries : List Entry) (c : Case) → AreSound before → reading_after last before entries ≡ Ok c → Gives c
gives last before [] c sound read =
    let end = ends last before c (came form.End before) refl read in
    record { lines = before; sound = sound; ended = end.0; is = end.1 }
gives last before (e ∷ es) c sound read =
    let on = goes_on last before e es c (cause_of (known_of before) e) refl read in
    gives last (e ∷ before) es c (on.0, sound) on.1

-- ---- forms by their places

forms : List Form
forms =
    form.Forest ∷ form.Roots ∷ form.Side ∷ form.Levels ∷ form.Ranks ∷ form.Steps ∷ form.Snapshot ∷ form.Regrid ∷ form.Refine ∷ form.Coarsen
    ∷ form.Flow ∷ form.Turns ∷ form.Shift ∷ form.Fill ∷ form.Die ∷ form.Order ∷ form.End ∷ form.Other ∷ []

at_place : (f : Form) → get_or forms (place_of f) form.Other ≡ f
unfolding forms
at_place form.Forest = refl
at_place form.Roots = refl
at_place form.Side = refl
at_place form.Levels = refl
at_place form.Ranks = refl
at_place form.Steps = refl
at_place form.Snapshot = refl
at_place form.Regrid = refl
at_place form.Refine = refl
at_place form.Coarsen = refl
at_place form.Flow = refl
at_place form.Turns = refl
at_place form.Shift = refl
at_place form.Fill = refl
at_place form.Die = refl
at_place form.Order = refl
at_place form.End = refl
at_place form.Other = refl

pub form_is : (f g : Form) → same_form f g ≡ true → g ≡ f
form_is f g same =
    sym (at_place g) ∙ ap (λ n. get_or forms n form.Other) (sym (eqb-true (place_of f) (place_of g) same)) ∙ at_place f

-- ---- which headings have come

-- the state after sound lines
pub record State (before : List Entry) : Type 0 where
  pub outline : Outline
  pub agrees : Agrees outline before

cause_in : (before : List Entry) (e : Entry) (s : State before) → cause_of (known_of before) e ≡ None → cause_of (known_in s.outline) e ≡ None
cause_in before e s none = ap (λ k. cause_of k e) (same_known s.outline before s.agrees) ∙ none

pub state : (before : List Entry) → AreSound before → State before
state [] sound = record { outline = blank_outline; agrees = agrees_blank }
state (e ∷ before) sound =
    let s = state before sound.1 in
    record {
      outline = outline_with s.outline e.form (numbers_of e);
      agrees = agrees_more s.outline before e s.agrees (cause_in before e s sound.0);
    }

came_place : (before : List Entry) (s : State before) (f : Form) → is_heading f ≡ true → came f before ≡ true → place_of f < s.outline.next
came_place before s f heading has =
    let both : (is_heading f && came f before) ≡ true = rw (heading, has) refl in
    ltb-true (place_of f) s.outline.next (and_parts (is_heading f) (ltb (place_of f) s.outline.next) (sym (s.agrees.headings f) ∙ both)).1

place_came : (before : List Entry) (s : State before) (f : Form) → is_heading f ≡ true → place_of f < s.outline.next → came f before ≡ true
place_came before s f heading below =
    let both : came_below s.outline.next f ≡ true = rw (heading, lt-ltb (place_of f) s.outline.next below) refl in
    (and_parts (is_heading f) (came f before) (s.agrees.headings f ∙ both)).1

-- no heading that belongs before a sound line is missing
due_by : (before : List Entry) (s : State before) (e : Entry) → cause_of (known_of before) e ≡ None → due_place e.form ≤ s.outline.next
due_by before s e none =
    let clear = clear_parts (known_in s.outline) e (cause_in before e s none) in
    let missing : is_missing (came_below s.outline.next) e.form ≡ false = clear_at (has_word_cause (known_in s.outline) e) word_codes 3 clear.words (lit< tt) in
    ltb-false s.outline.next (due_place e.form) (missing_is e.form s.outline.next s.agrees.bounded.next ∙ missing)

-- a heading that is sound is the next one
next_by : (before : List Entry) (s : State before) (e : Entry) → cause_of (known_of before) e ≡ None → is_heading e.form ≡ true → place_of e.form ≡ s.outline.next
next_by before s e none heading =
    let clear = clear_parts (known_in s.outline) e (cause_in before e s none) in
    let missing : is_missing (came_below s.outline.next) e.form ≡ false = clear_at (has_word_cause (known_in s.outline) e) word_codes 3 clear.words (lit< tt) in
    let fresh : came_below s.outline.next e.form ≡ false = clear_at (has_word_cause (known_in s.outline) e) word_codes 4 clear.words (lit< tt) in
    heading_next s.outline.next e.form s.agrees.bounded.next heading missing fresh

-- the headings that belong before a sound line have come
pub came_before : (before : List Entry) (e : Entry) → AreSound (e ∷ before) → (f : Form) → is_heading f ≡ true → place_of f < due_place e.form → came f before ≡ true
came_before before e sound f heading early =
    let s = state before sound.1 in
    place_came before s f heading (let due = due_by before s e sound.0 in omega arith)

pub came_more : (before : List Entry) (e : Entry) (f : Form) → came f before ≡ true → came f (e ∷ before) ≡ true
came_more before e f has = or_right (same_form f e.form) (came f before) has
  where
    or_right : (a b : Bool) → b ≡ true → (a || b) ≡ true
    or_right true b e = refl
    or_right false b e = e

-- a heading doesn't come again
pub not_again : (before : List Entry) (e : Entry) → AreSound (e ∷ before) → (f : Form) → is_heading f ≡ true → came f before ≡ true → same_form f e.form ≡ false
not_again before e sound f heading has = by_test (same_form f e.form) refl
  where
    by_test : (b : Bool) → same_form f e.form ≡ b → same_form f e.form ≡ false
    by_test false is = is
    by_test true is =
        let s = state before sound.1 in
        let same : e.form ≡ f = form_is f e.form is in
        let early : place_of f < s.outline.next = came_place before s f heading has in
        let next : place_of e.form ≡ s.outline.next = next_by before s e sound.0 (ap is_heading same ∙ heading) in
        let place : place_of e.form ≡ place_of f = ap place_of same in
        absurd (omega arith)

-- so its numbers stay
pub given_stays : (before : List Entry) (e : Entry) → AreSound (e ∷ before) → (f : Form) (k : ℕ) → is_heading f ≡ true → came f before ≡ true
    → given f k (e ∷ before) ≡ given f k before
given_stays before e sound f k heading has =
    ap (λ b. cond b (number_at e k) (given f k before)) (not_again before e sound f heading has)

-- once the end has come, all headings have
pub all_came : (before : List Entry) → AreSound before → came form.End before ≡ true → (f : Form) → is_heading f ≡ true → came f before ≡ true
all_came [] sound ended f heading = absurd (let no : false ≡ true = ended in cc)
all_came (e ∷ before) sound ended f heading = by_test (all_came before sound.1) (same_form form.End e.form) refl
  where
    low : (g : Form) → is_heading g ≡ true → place_of g < 13
    low g h = let l = leb-true (place_of g) 12 h in omega arith

    by_test : (came form.End before ≡ true → (g : Form) → is_heading g ≡ true → came g before ≡ true) → (b : Bool) → same_form form.End e.form ≡ b
        → came f (e ∷ before) ≡ true
    by_test others true is =
        let same : e.form ≡ form.End = form_is form.End e.form is in
        came_more before e f (came_before before e sound f heading (subst (λ g. place_of f < due_place g) (sym same) (low f heading)))
    by_test others false is =
        let earlier : came form.End before ≡ true = sym (ap (λ b. b || came form.End before) is) ∙ ended in
        came_more before e f (others earlier f heading)

-- ---- the line of a heading

-- the line of this heading, and what stays of the lines before it
pub record LineOf (f : Form) (before : List Entry) : Type 0 where
  pub line : Entry
  pub earlier : List Entry
  pub form : line.form ≡ f
  pub sound : AreSound (line ∷ earlier)
  pub numbers : (k : ℕ) → given f k before ≡ number_at line k
  pub stays : (g : Form) (k : ℕ) → is_heading g ≡ true → came g earlier ≡ true → (came g before ≡ true) × (given g k before ≡ given g k earlier)

pub line_of : (before : List Entry) (f : Form) → AreSound before → is_heading f ≡ true → came f before ≡ true → LineOf f before
line_of [] f sound heading has = absurd (let no : false ≡ true = has in cc)
line_of (e ∷ before) f sound heading has = by_test (line_of before f sound.1 heading) (same_form f e.form) refl
  where
    by_test : (came f before ≡ true → LineOf f before) → (b : Bool) → same_form f e.form ≡ b → LineOf f (e ∷ before)
    by_test others true is = record {
      line = e;
      earlier = before;
      form = form_is f e.form is;
      sound = sound;
      numbers = λ k. ap (λ b. cond b (number_at e k) (given f k before)) is;
      stays = λ g k h c. (came_more before e g c, given_stays before e sound g k h c);
    }
    by_test others false is =
        let earlier : came f before ≡ true = sym (ap (λ b. b || came f before) is) ∙ has in
        let r = others earlier in
        record {
          line = r.line;
          earlier = r.earlier;
          form = r.form;
          sound = r.sound;
          numbers = λ k. ap (λ b. cond b (number_at e k) (given f k before)) is ∙ r.numbers k;
          stays = λ g k h c.
              let s = r.stays g k h c in (came_more before e g s.0, given_stays before e sound g k h s.0 ∙ s.1);
        }
