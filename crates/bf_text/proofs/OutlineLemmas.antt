-- An outline tells what the lines before tell.
use Rattle.std.proofs.Common.{◌≡◌, ℕ, ◌+◌, ◌<◌, ◌≤◌, Bool, true, false, ◌&&◌, ◌||◌, cond, ltb, leb, eqb, List, ◌∷◌, Option, Some, None, length, map, get_or, set, refl, sym, ap, ◌∙◌, inl, inr, arith, get_or-set_same, get_or-set_other}
use Rattle.std.specs.Prelude.{is_some, slice_index}
use Rattle.std.specs.Str.Parse.{digits_value}
use Rattle.std.proofs.lemmas.Bool.{leb-true, leb-false, ltb-false, eq-eqb, ne_eqb, cases_eq}
use Rattle.std.proofs.lemmas.Bool.Decides.{nat_tests}
use Rattle.std.proofs.lemmas.List.{length-set}
use Rattle.bf_text.specs.declared.form.Form.{Form}
use Rattle.bf_text.specs.declared.form.Form.TheVariants as form
use Rattle.bf_text.specs.declared.head.Head.{Head}
use Rattle.bf_text.specs.declared.outline.Outline.{Outline}
use Rattle.bf_text.specs.Forms.{place_of, same_form, is_heading}
use Rattle.bf_text.specs.Entries.{Entry, came, head_of, death_of}
use Rattle.bf_text.specs.Faults.{Known, known_of, is_missing}
use Rattle.bf_text.specs.Drafts.{came_below, dies_in, known_in, due_place, head_with, deaths_with, next_after, IsBounded}
use Rattle.bf_text.proofs.MissingLemmas.{missing_is}

-- the outline is that of these lines, the last one first
pub record Agrees (o : Outline) (before : List Entry) : Type 0 where
  pub headings : (f : Form) → (is_heading f && came f before) ≡ came_below o.next f
  pub end : o.ended ≡ came form.End before
  pub numbers : o.head ≡ head_of before
  pub deaths : (rank : ℕ) → get_or o.deaths rank None ≡ death_of rank before
  pub sixteen : length o.deaths ≡ 16
  pub bounded : IsBounded o

known : (Form → Bool) → Bool → Head → (ℕ → Bool) → Known
known came ended head dies = record { came = came; ended = ended; head = head; dies = dies }

funext : {A B : Type 0} (f g : A → B) → ((x : A) → f x ≡ g x) → f ≡ g
funext f g h = λ i x. h x i

pub same_known : (o : Outline) (before : List Entry) → Agrees o before → known_in o ≡ known_of before
unfolding known
same_known o before a =
    ap (λ c. known c o.ended o.head (dies_in o.deaths)) (sym (funext (λ f. is_heading f && came f before) (came_below o.next) a.headings))
    ∙ ap (λ e. known (λ f. is_heading f && came f before) e o.head (dies_in o.deaths)) a.end
    ∙ ap (λ h. known (λ f. is_heading f && came f before) (came form.End before) h (dies_in o.deaths)) a.numbers
    ∙ ap (known (λ f. is_heading f && came f before) (came form.End before) (head_of before))
    (funext (dies_in o.deaths) (λ rank. is_some (death_of rank before)) (λ rank. ap is_some (a.deaths rank)))

-- ---- one more line

due_heading : (g : Form) → is_heading g ≡ true → due_place g ≡ place_of g
due_heading form.Forest e = refl
due_heading form.Roots e = refl
due_heading form.Side e = refl
due_heading form.Levels e = refl
due_heading form.Ranks e = refl
due_heading form.Steps e = refl
due_heading form.Snapshot e = refl
due_heading form.Regrid e = refl
due_heading form.Refine e = refl
due_heading form.Coarsen e = refl
due_heading form.Flow e = refl
due_heading form.Turns e = refl
due_heading form.Shift e = refl
due_heading form.Fill e = absurd (let no : false ≡ true = e in cc)
due_heading form.Die e = absurd (let no : false ≡ true = e in cc)
due_heading form.Order e = absurd (let no : false ≡ true = e in cc)
due_heading form.End e = absurd (let no : false ≡ true = e in cc)
due_heading form.Other e = absurd (let no : false ≡ true = e in cc)

-- a heading that is neither missing one nor come comes next
pub heading_next : (next : ℕ) (g : Form) → next ≤ 13 → is_heading g ≡ true → is_missing (came_below next) g ≡ false → came_below next g ≡ false → place_of g ≡ next
heading_next next g low heading missing fresh =
    let due = due_heading g heading in
    let late : ltb next (due_place g) ≡ false = missing_is g next low ∙ missing in
    let early : ltb (place_of g) next ≡ false = rw heading at fresh in
    let a = ltb-false next (due_place g) late in
    let b = ltb-false (place_of g) next early in
    omega arith

came_at : (pf pg next after : ℕ) (hf hg c : Bool) → hf ≡ leb pf 12 → hg ≡ leb pg 12 → (hf && c) ≡ (hf && ltb pf next)
    → (hg ≡ true → pg ≡ next) → after ≡ cond hg (pg + 1) next → (hf && (eqb pf pg || c)) ≡ (hf && ltb pf after)
came_at pf pg next after false hg c f g e place is = refl
came_at pf pg next after true true c f g e place is =
    let here : pg ≡ next = place refl in
    let same : c ≡ ltb pf next = e in
    let more : after ≡ next + 1 = is ∙ ap (λ n. n + 1) here in
    rw (same, here, more) (grind (arith, nat_tests))
came_at pf pg next after true false c f g e place is =
    let low : pf ≤ 12 = leb-true pf 12 (sym f) in
    let high : 12 < pg = leb-false pg 12 (sym g) in
    let ne : pf ≡ pg → ⊥ = λ s. omega arith in
    let same : c ≡ ltb pf next = e in
    rw (ne_eqb pf pg ne, is) same

pub came_more : (next : ℕ) (f g : Form) (c : Bool) → (is_heading f && c) ≡ came_below next f → (is_heading g ≡ true → place_of g ≡ next)
    → (is_heading f && (same_form f g || c)) ≡ came_below (next_after next g) f
came_more next f g c e place =
    came_at (place_of f) (place_of g) next (next_after next g) (is_heading f) (is_heading g) c refl refl e place refl

pub head_more : (f : Form) (line : ℕ) (is_text : Bool) (arguments : List (List ℕ)) (before : List Entry)
    → head_with (head_of before) f (map (digits_value 10) arguments) ≡ head_of (record { line = line; is_text = is_text; form = f; arguments = arguments } ∷ before)
head_more form.Forest line is_text arguments before = refl
head_more form.Roots line is_text arguments before = refl
head_more form.Side line is_text arguments before = refl
head_more form.Levels line is_text arguments before = refl
head_more form.Ranks line is_text arguments before = refl
head_more form.Steps line is_text arguments before = refl
head_more form.Snapshot line is_text arguments before = refl
head_more form.Regrid line is_text arguments before = refl
head_more form.Refine line is_text arguments before = refl
head_more form.Coarsen line is_text arguments before = refl
head_more form.Flow line is_text arguments before = refl
head_more form.Turns line is_text arguments before = refl
head_more form.Shift line is_text arguments before = refl
head_more form.Fill line is_text arguments before = refl
head_more form.Die line is_text arguments before = refl
head_more form.Order line is_text arguments before = refl
head_more form.End line is_text arguments before = refl
head_more form.Other line is_text arguments before = refl

pub deaths_more : (f : Form) (line : ℕ) (is_text : Bool) (arguments : List (List ℕ)) (before : List Entry) (deaths : List (Option ℕ)) (rank : ℕ)
    → (f ≡ form.Die → slice_index (map (digits_value 10) arguments) 0 < length deaths) → get_or deaths rank None ≡ death_of rank before
    → get_or (deaths_with deaths f (map (digits_value 10) arguments)) rank None ≡ death_of rank (record { line = line; is_text = is_text; form = f; arguments = arguments } ∷ before)
deaths_more form.Forest line is_text arguments before deaths rank within e = e
deaths_more form.Roots line is_text arguments before deaths rank within e = e
deaths_more form.Side line is_text arguments before deaths rank within e = e
deaths_more form.Levels line is_text arguments before deaths rank within e = e
deaths_more form.Ranks line is_text arguments before deaths rank within e = e
deaths_more form.Steps line is_text arguments before deaths rank within e = e
deaths_more form.Snapshot line is_text arguments before deaths rank within e = e
deaths_more form.Regrid line is_text arguments before deaths rank within e = e
deaths_more form.Refine line is_text arguments before deaths rank within e = e
deaths_more form.Coarsen line is_text arguments before deaths rank within e = e
deaths_more form.Flow line is_text arguments before deaths rank within e = e
deaths_more form.Turns line is_text arguments before deaths rank within e = e
deaths_more form.Shift line is_text arguments before deaths rank within e = e
deaths_more form.Fill line is_text arguments before deaths rank within e = e
deaths_more form.Die line is_text arguments before deaths rank within e =
    let dead = slice_index (map (digits_value 10) arguments) 0 in
    let events = slice_index (map (digits_value 10) arguments) 1 in
    elim (cases_eq rank dead) [
      | inl same ↦
          rw (eq-eqb dead rank (sym same)) (
          ap (λ k. get_or (set deaths dead (Some events)) k None) same ∙ get_or-set_same deaths dead (Some events) None (within refl))
      | inr other ↦
          rw (ne_eqb dead rank (λ s. other (sym s))) (get_or-set_other deaths dead rank (Some events) None other ∙ e)
    ]
deaths_more form.Order line is_text arguments before deaths rank within e = e
deaths_more form.End line is_text arguments before deaths rank within e = e
deaths_more form.Other line is_text arguments before deaths rank within e = e

pub length_deaths : (f : Form) (deaths : List (Option ℕ)) (numbers : List ℕ) → length (deaths_with deaths f numbers) ≡ length deaths
length_deaths form.Forest deaths numbers = refl
length_deaths form.Roots deaths numbers = refl
length_deaths form.Side deaths numbers = refl
length_deaths form.Levels deaths numbers = refl
length_deaths form.Ranks deaths numbers = refl
length_deaths form.Steps deaths numbers = refl
length_deaths form.Snapshot deaths numbers = refl
length_deaths form.Regrid deaths numbers = refl
length_deaths form.Refine deaths numbers = refl
length_deaths form.Coarsen deaths numbers = refl
length_deaths form.Flow deaths numbers = refl
length_deaths form.Turns deaths numbers = refl
length_deaths form.Shift deaths numbers = refl
length_deaths form.Fill deaths numbers = refl
length_deaths form.Die deaths numbers = length-set deaths (slice_index numbers 0) (Some (slice_index numbers 1))
length_deaths form.Order deaths numbers = refl
length_deaths form.End deaths numbers = refl
length_deaths form.Other deaths numbers = refl
