-- An outline goes on to tell what the lines before tell, line by line.
use Rattle.std.proofs.Common.{◌≡◌, ℕ, ◌+◌, ◌<◌, ◌≤◌, true, false, not, ◌&&◌, ◌||◌, leb, eqb, List, [], ◌∷◌, None, length, refl, sym, ap, subst, ◌∙◌, arith, lit<}
use Rattle.std.specs.Prelude.{slice_index}
use Rattle.std.specs.Str.Parse.{digits_value}
use Rattle.std.proofs.lemmas.Bool.{and_parts, leb-true, leb-false, eqb-true, not-false, cond_both}
use Rattle.std.proofs.lemmas.List.{length-map}
use Rattle.bf_id.specs.declared.shape.Shape.{Shape}
use Rattle.bf_text.specs.declared.form.Range.{Range}
use Rattle.bf_text.specs.declared.form.Form.{Form}
use Rattle.bf_text.specs.declared.form.Form.TheVariants as form
use Rattle.bf_text.specs.declared.head.Head.{Head}
use Rattle.bf_text.specs.declared.outline.Outline.{Outline}
use Rattle.bf_text.specs.Codes.{word_codes, number_codes}
use Rattle.bf_text.specs.Forms.{place_of, same_form, is_heading, takes, fits, is_within, are_within, from_to}
use Rattle.bf_text.specs.Entries.{Entry, numbers_of, came}
use Rattle.bf_text.specs.Faults.{is_missing, cause_of, has_word_cause, has_number_cause, kills_no_rank}
use Rattle.bf_text.specs.Heads.{IsSmall}
use Rattle.bf_text.specs.Drafts.{came_below, known_in, head_with, next_after, outline_with, blank_outline}
use Rattle.bf_text.proofs.ClearLemmas.{clear_at, clear_parts}
use Rattle.bf_text.proofs.DeathLemmas.{none_dies}
use Rattle.bf_text.proofs.OutlineLemmas.{Agrees, heading_next, came_more, head_more, deaths_more, length_deaths}

-- ---- bounds

high : (r : Range) (n : ℕ) → is_within r n ≡ true → n ≤ r.greatest
high r n e = leb-true n r.greatest (and_parts (leb r.least n) (leb n r.greatest) e).1

roots_small : (h : Head) (ns : List ℕ) → IsSmall h → takes form.Roots (length ns) ≡ true → fits form.Roots ns ≡ true → IsSmall (head_with h form.Roots ns)
roots_small h [] small count fit = absurd (omega (arith, eqb-true 0 3 count))
roots_small h (a ∷ []) small count fit = absurd (omega (arith, eqb-true 1 3 count))
roots_small h (a ∷ b ∷ []) small count fit = absurd (omega (arith, eqb-true 2 3 count))
roots_small h (a ∷ b ∷ c ∷ []) small count fit =
    let r = from_to 1 16 in
    let x = and_parts (is_within r a) (is_within r b && (is_within r c && true)) fit in
    let y = and_parts (is_within r b) (is_within r c && true) x.1 in
    let z = and_parts (is_within r c) true y.1 in
    record { few_x = high r a x.0; few_y = high r b y.0; few_z = high r c z.0; narrow = small.narrow; few_ranks = small.few_ranks }
roots_small h (a ∷ b ∷ c ∷ d ∷ ns) small count fit = absurd (omega (arith, eqb-true (length (a ∷ b ∷ c ∷ d ∷ ns)) 3 count))

first_high : (r : Range) (ns : List ℕ) → eqb (length ns) 1 ≡ true → are_within (r ∷ []) ns ≡ true → slice_index ns 0 ≤ r.greatest
first_high r [] count fit = absurd (omega (arith, eqb-true 0 1 count))
first_high r (n ∷ []) count fit = high r n (and_parts (is_within r n) true fit).0
first_high r (n ∷ m ∷ ns) count fit = absurd (omega (arith, eqb-true (length (n ∷ m ∷ ns)) 1 count))

-- what isn't changed stays small
same_small : (h k : Head) → k.roots ≡ h.roots → k.side ≡ h.side → k.ranks ≡ h.ranks → IsSmall h → IsSmall k
same_small h k roots side ranks small = record {
  few_x = omega (arith, small.few_x, ap (λ (s : Shape). s.nx) roots);
  few_y = omega (arith, small.few_y, ap (λ (s : Shape). s.ny) roots);
  few_z = omega (arith, small.few_z, ap (λ (s : Shape). s.nz) roots);
  narrow = omega (arith, small.narrow, side);
  few_ranks = omega (arith, small.few_ranks, ranks);
}

small_more : (f : Form) (h : Head) (ns : List ℕ) → IsSmall h → takes f (length ns) ≡ true → fits f ns ≡ true → IsSmall (head_with h f ns)
small_more form.Forest h ns small count fit = small
small_more form.Roots h ns small count fit = roots_small h ns small count fit
small_more form.Side h ns small count fit =
    record { few_x = small.few_x; few_y = small.few_y; few_z = small.few_z; narrow = first_high (from_to 2 16) ns count (and_parts (are_within (from_to 2 16 ∷ []) ns) _ fit).0; few_ranks = small.few_ranks }
small_more form.Levels h ns small count fit = same_small h (head_with h form.Levels ns) refl refl refl small
small_more form.Ranks h ns small count fit =
    record { few_x = small.few_x; few_y = small.few_y; few_z = small.few_z; narrow = small.narrow; few_ranks = first_high (from_to 1 16) ns count fit }
small_more form.Steps h ns small count fit = same_small h (head_with h form.Steps ns) refl refl refl small
small_more form.Snapshot h ns small count fit = same_small h (head_with h form.Snapshot ns) refl refl refl small
small_more form.Regrid h ns small count fit = same_small h (head_with h form.Regrid ns) refl refl refl small
small_more form.Refine h ns small count fit = same_small h (head_with h form.Refine ns) refl refl refl small
small_more form.Coarsen h ns small count fit = same_small h (head_with h form.Coarsen ns) refl refl refl small
small_more form.Flow h ns small count fit = same_small h (head_with h form.Flow ns) refl refl refl small
small_more form.Turns h ns small count fit = same_small h (head_with h form.Turns ns) refl refl refl small
small_more form.Shift h ns small count fit = same_small h (head_with h form.Shift ns) refl refl refl small
small_more form.Fill h ns small count fit = small
small_more form.Die h ns small count fit = small
small_more form.Order h ns small count fit = small
small_more form.End h ns small count fit = small
small_more form.Other h ns small count fit = small

next_low : (next : ℕ) (g : Form) → next ≤ 13 → next_after next g ≤ 13
next_low next g low =
    cond_both (leb (place_of g) 12) (place_of g + 1) next (λ n. n ≤ 13) (λ e. omega (arith, leb-true (place_of g) 12 e)) (λ e. low)

-- ---- one more line

die_within : (o : Outline) (f : Form) (ns : List ℕ) → IsSmall o.head → length o.deaths ≡ 16 → kills_no_rank o.head f ns ≡ false
    → f ≡ form.Die → slice_index ns 0 < length o.deaths
die_within o f ns small sixteen alive is =
    let e : leb o.head.ranks (slice_index ns 0) ≡ false = subst (λ g. kills_no_rank o.head g ns ≡ false) is alive in
    omega (arith, leb-false o.head.ranks (slice_index ns 0) e, small.few_ranks, sixteen)

pub agrees_more : (o : Outline) (before : List Entry) (e : Entry) → Agrees o before → cause_of (known_in o) e ≡ None → Agrees (outline_with o e.form (numbers_of e)) (e ∷ before)
agrees_more o before e a none =
    let clear = clear_parts (known_in o) e none in
    let missing : is_missing (came_below o.next) e.form ≡ false = clear_at (has_word_cause (known_in o) e) word_codes 3 clear.words (lit< tt) in
    let fresh : came_below o.next e.form ≡ false = clear_at (has_word_cause (known_in o) e) word_codes 4 clear.words (lit< tt) in
    let counted : not (takes e.form (length e.arguments)) ≡ false = clear_at (has_word_cause (known_in o) e) word_codes 5 clear.words (lit< tt) in
    let fit : not (fits e.form (numbers_of e)) ≡ false = clear_at (has_number_cause (known_in o) e.form (numbers_of e)) number_codes 0 clear.numbers (lit< tt) in
    let alive : kills_no_rank o.head e.form (numbers_of e) ≡ false = clear_at (has_number_cause (known_in o) e.form (numbers_of e)) number_codes 4 clear.numbers (lit< tt) in
    let count = subst (λ n. takes e.form n ≡ true) (sym (length-map e.arguments (digits_value 10))) (not-false (takes e.form (length e.arguments)) counted) in
    record {
      headings = λ f. came_more o.next f e.form (came f before) (a.headings f) (λ heading. heading_next o.next e.form a.bounded.next heading missing fresh);
      end = ap (λ b. same_form form.End e.form || b) a.end;
      numbers = ap (λ h. head_with h e.form (numbers_of e)) a.numbers ∙ head_more e.form e.line e.is_text e.arguments before;
      deaths = λ rank. deaths_more e.form e.line e.is_text e.arguments before o.deaths rank
          (die_within o e.form (numbers_of e) a.bounded.small a.sixteen alive) (a.deaths rank);
      sixteen = length_deaths e.form o.deaths (numbers_of e) ∙ a.sixteen;
      bounded = record {
        next = next_low o.next e.form a.bounded.next;
        small = small_more e.form o.head (numbers_of e) a.bounded.small count (not-false (fits e.form (numbers_of e)) fit);
      };
    }

-- ---- no line

nothing_came : (f : Form) → (is_heading f && false) ≡ came_below 0 f
nothing_came form.Forest = refl
nothing_came form.Roots = refl
nothing_came form.Side = refl
nothing_came form.Levels = refl
nothing_came form.Ranks = refl
nothing_came form.Steps = refl
nothing_came form.Snapshot = refl
nothing_came form.Regrid = refl
nothing_came form.Refine = refl
nothing_came form.Coarsen = refl
nothing_came form.Flow = refl
nothing_came form.Turns = refl
nothing_came form.Shift = refl
nothing_came form.Fill = refl
nothing_came form.Die = refl
nothing_came form.Order = refl
nothing_came form.End = refl
nothing_came form.Other = refl

pub agrees_blank : Agrees blank_outline []
agrees_blank = record {
  headings = nothing_came;
  end = refl;
  numbers = refl;
  deaths = none_dies 16;
  sixteen = refl;
  bounded = record {
    next = omega arith;
    small = record { few_x = omega arith; few_y = omega arith; few_z = omega arith; narrow = omega arith; few_ranks = omega arith };
  };
}
