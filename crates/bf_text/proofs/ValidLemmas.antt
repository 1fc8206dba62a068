-- What lines without a fault give is a valid case.
use Rattle.std.proofs.Common.{◌≡◌, ℕ, zero, suc, ◌+◌, ◌*◌, ◌%◌, ◌^◌, ◌<◌, ◌≤◌, Bool, true, false, not, ◌&&◌, cond, ltb, leb, eqb, List, [], ◌∷◌, ◌++◌, Option, Some, None, Ok, Err, length, map, get_or, refl, sym, ap, subst, ◌∙◌, arith, lit<}
use Rattle.std.specs.Prelude.{slice_index}
use Rattle.std.specs.List.{All, list_all, flat_map, range_with_len}
use Rattle.std.specs.List.Sorted.{IsStrictlyIncreasing}
use Rattle.std.specs.Str.Parse.{digits_value}
use Rattle.std.proofs.lemmas.Bool.{leb-true, leb-false, ltb-true, ltb-false, eqb-true, not-false, and_parts}
use Rattle.std.proofs.lemmas.List.{length-map}
use Rattle.std.proofs.lemmas.List.Elements.{All-nil, All-cons, All-append}
use Rattle.std.proofs.lemmas.List.Sums.{AllPass-from_list_all}
use Rattle.bf_id.specs.Shape.{IsShape, root_count}
use Rattle.bf_case.specs.declared.case.Case.{Case}
use Rattle.bf_case.specs.Case.{cell_limit, IsDeath, IsFill, IsScheduled, IsSized, IsStretch, IsValid}
use Rattle.bf_text.specs.declared.code.Code.TheVariants as code
use Rattle.bf_text.specs.declared.form.Range.{Range}
use Rattle.bf_text.specs.declared.form.Form.{Form}
use Rattle.bf_text.specs.declared.form.Form.TheVariants as form
use Rattle.bf_text.specs.Codes.{word_codes, number_codes}
use Rattle.bf_text.specs.Forms.{place_of, same_form, is_heading, takes, fits, is_within, are_within, from_to, up_to, word_range, ranges_of}
use Rattle.bf_text.specs.Lines.{lines_of}
use Rattle.bf_text.specs.Entries.{Entry, entries_from, numbers_of, number_at, came, given, head_of, fill_of, fills_of, order_of, death_of, listed, case_of}
use Rattle.bf_text.specs.Faults.{known_of, has_word_cause, has_number_cause, is_stretch, holds_fill}
use Rattle.bf_text.specs.Reading.{input_limit, refusal, reading_of_lines, reading}
use Rattle.bf_text.specs.Drafts.{due_place}
use Rattle.bf_text.proofs.ClearLemmas.{clear_at, clear_parts}
use Rattle.bf_text.proofs.FitLemmas.{small_when_fits}
use Rattle.bf_text.proofs.DeathLemmas.{Rising}
use Rattle.bf_text.proofs.SoundLemmas.{AreSound, gives, LineOf, line_of, came_before, came_more, given_stays, all_came, form_is}

-- ---- the numbers of a sound line

-- as many as belong to its form, each in its range
pub record Fitting (f : Form) (ns : List ℕ) : Type 0 where
  pub count : takes f (length ns) ≡ true
  pub fit : fits f ns ≡ true

fitting : (before : List Entry) (e : Entry) → AreSound (e ∷ before) → (f : Form) → e.form ≡ f → Fitting f (numbers_of e)
fitting before e sound f is =
    let clear = clear_parts (known_of before) e sound.0 in
    let counted : not (takes e.form (length e.arguments)) ≡ false = clear_at (has_word_cause (known_of before) e) word_codes 5 clear.words (lit< tt) in
    let fit : not (fits e.form (numbers_of e)) ≡ false = clear_at (has_number_cause (known_of before) e.form (numbers_of e)) number_codes 0 clear.numbers (lit< tt) in
    subst (λ g. Fitting g (numbers_of e)) is (record {
      count = subst (λ n. takes e.form n ≡ true) (sym (length-map e.arguments (digits_value 10))) (not-false (takes e.form (length e.arguments)) counted);
      fit = not-false (fits e.form (numbers_of e)) fit;
    })

-- it hasn't the cause at this place of those of numbers
clear_of : (before : List Entry) (e : Entry) → AreSound (e ∷ before) → (f : Form) → e.form ≡ f → (k : ℕ) → k < length number_codes
    → has_number_cause (known_of before) f (numbers_of e) (get_or number_codes k code.NotText) ≡ false
clear_of before e sound f is k within =
    subst (λ g. has_number_cause (known_of before) g (numbers_of e) (get_or number_codes k code.NotText) ≡ false) is
    (clear_at (has_number_cause (known_of before) e.form (numbers_of e)) number_codes k (clear_parts (known_of before) e sound.0).numbers within)

-- ---- ranges

abbrev IsIn : Range → ℕ → Type 0
IsIn r n = (r.least ≤ n) × (n ≤ r.greatest)

in_range : (r : Range) (n : ℕ) → is_within r n ≡ true → IsIn r n
in_range r n e =
    let parts = and_parts (leb r.least n) (leb n r.greatest) e in (leb-true r.least n parts.0, leb-true n r.greatest parts.1)

one_in : (r : Range) (ns : List ℕ) → eqb (length ns) 1 ≡ true → are_within (r ∷ []) ns ≡ true → IsIn r (slice_index ns 0)
one_in r [] count fit = absurd (omega (arith, eqb-true 0 1 count))
one_in r (n ∷ []) count fit = in_range r n (and_parts (is_within r n) true fit).0
one_in r (n ∷ m ∷ ns) count fit = absurd (omega (arith, eqb-true (length (n ∷ m ∷ ns)) 1 count))

three_in : (r : Range) (ns : List ℕ) → eqb (length ns) 3 ≡ true → are_within (r ∷ r ∷ r ∷ []) ns ≡ true
    → IsIn r (slice_index ns 0) × (IsIn r (slice_index ns 1) × IsIn r (slice_index ns 2))
three_in r [] count fit = absurd (omega (arith, eqb-true 0 3 count))
three_in r (a ∷ []) count fit = absurd (omega (arith, eqb-true 1 3 count))
three_in r (a ∷ b ∷ []) count fit = absurd (omega (arith, eqb-true 2 3 count))
three_in r (a ∷ b ∷ c ∷ []) count fit =
    let x = and_parts (is_within r a) (is_within r b && (is_within r c && true)) fit in
    let y = and_parts (is_within r b) (is_within r c && true) x.1 in
    let z = and_parts (is_within r c) true y.1 in (in_range r a x.0, (in_range r b y.0, in_range r c z.0))
three_in r (a ∷ b ∷ c ∷ d ∷ ns) count fit = absurd (omega (arith, eqb-true (length (a ∷ b ∷ c ∷ d ∷ ns)) 3 count))

-- a number of a sound line has 32 bits
small_at : (f : Form) (ns : List ℕ) → Fitting f ns → (k : ℕ) → k < length ns → slice_index ns k < 2 ^ 32
small_at f ns fitting k within =
    let all = small_when_fits f ns fitting.count fitting.fit in
    let small = in_range word_range (get_or ns k 0) (AllPass-from_list_all (is_within word_range) ns all k 0 within) in
    omega (arith, small.1)

-- ---- the headings

module _ (all : List Entry) (sound : AreSound all) (ended : came form.End all ≡ true) where
  its_line : (f : Form) → is_heading f ≡ true → LineOf f all
  its_line f heading = line_of all f sound heading (all_came all sound ended f heading)

  its_numbers : (f : Form) (heading : is_heading f ≡ true) → Fitting f (numbers_of (its_line f heading).line)
  its_numbers f heading =
      let l = its_line f heading in fitting l.earlier l.line l.sound f l.form

  -- a heading with one number
  one_given : (f : Form) (r : Range) (heading : is_heading f ≡ true) → IsIn r (number_at (its_line f heading).line 0) → IsIn r (given f 0 all)
  one_given f r heading is = subst (IsIn r) (sym ((its_line f heading).numbers 0)) is

  shape_is : IsShape (head_of all).roots
  shape_is =
      let l = its_line form.Roots refl in
      let n = its_numbers form.Roots refl in
      let is = three_in (from_to 1 16) (numbers_of l.line) n.count n.fit in
      let x : IsIn (from_to 1 16) (given form.Roots 0 all) = subst (IsIn (from_to 1 16)) (sym (l.numbers 0)) is.0 in
      let y : IsIn (from_to 1 16) (given form.Roots 1 all) = subst (IsIn (from_to 1 16)) (sym (l.numbers 1)) is.1.0 in
      let z : IsIn (from_to 1 16) (given form.Roots 2 all) = subst (IsIn (from_to 1 16)) (sym (l.numbers 2)) is.1.1 in
      record { some_x = x.0; some_y = y.0; some_z = z.0; few_x = x.1; few_y = y.1; few_z = z.1 }

  side_in : IsIn (from_to 2 16) (given form.Side 0 all)
  side_in =
      let l = its_line form.Side refl in
      let n = its_numbers form.Side refl in
      one_given form.Side (from_to 2 16) refl
      (one_in (from_to 2 16) (numbers_of l.line) n.count (and_parts (are_within (ranges_of form.Side) (numbers_of l.line)) _ n.fit).0)

  side_even : given form.Side 0 all % 2 ≡ 0
  side_even =
      let l = its_line form.Side refl in
      let n = its_numbers form.Side refl in
      ap (λ k. k % 2) (l.numbers 0)
      ∙ eqb-true (number_at l.line 0 % 2) 0 (and_parts (are_within (ranges_of form.Side) (numbers_of l.line)) _ n.fit).1

  levels_in : IsIn (up_to 4) (given form.Levels 0 all)
  levels_in =
      let n = its_numbers form.Levels refl in
      one_given form.Levels (up_to 4) refl (one_in (up_to 4) (numbers_of (its_line form.Levels refl).line) n.count n.fit)

  few_cells : root_count (head_of all).roots * 8 ^ given form.Levels 0 all * (given form.Side 0 all * given form.Side 0 all * given form.Side 0 all) ≤ cell_limit
  few_cells =
      let l = its_line form.Levels refl in
      let roots = came_before l.earlier l.line l.sound form.Roots refl (subst (λ g. 1 < due_place g) (sym l.form) (lit< tt)) in
      let side = came_before l.earlier l.line l.sound form.Side refl (subst (λ g. 2 < due_place g) (sym l.form) (lit< tt)) in
      let few = ltb-false cell_limit _ (clear_of l.earlier l.line l.sound form.Levels l.form 1 (lit< tt)) in
      rw (
        (l.stays form.Roots 0 refl roots).1,
        (l.stays form.Roots 1 refl roots).1,
        (l.stays form.Roots 2 refl roots).1,
        (l.stays form.Side 0 refl side).1,
        l.numbers 0,
      ) few

  -- a heading whose one number has this range
  simple_in : (f : Form) (r : Range) (heading : is_heading f ≡ true)
      → ((ns : List ℕ) → Fitting f ns → (eqb (length ns) 1 ≡ true) × (are_within (r ∷ []) ns ≡ true)) → IsIn r (given f 0 all)
  simple_in f r heading form_takes =
      let ns = numbers_of (its_line f heading).line in
      let is = form_takes ns (its_numbers f heading) in
      one_given f r heading (one_in r ns is.0 is.1)

  uncrossed_is : given form.Coarsen 0 all ≤ given form.Refine 0 all
  uncrossed_is =
      let l = its_line form.Coarsen refl in
      let refine = came_before l.earlier l.line l.sound form.Refine refl (subst (λ g. 8 < due_place g) (sym l.form) (lit< tt)) in
      let low = ltb-false (given form.Refine 0 l.earlier) (number_at l.line 0) (clear_of l.earlier l.line l.sound form.Coarsen l.form 2 (lit< tt)) in
      rw (l.numbers 0, (l.stays form.Refine 0 refl refine).1) low

  sized : IsSized (case_of all)
  sized = record {
    shape = shape_is;
    even = side_even;
    wide = side_in.0;
    narrow = side_in.1;
    shallow = levels_in.1;
    few_cells = few_cells;
  }

  scheduled : IsScheduled (case_of all)
  scheduled =
      let ranks = simple_in form.Ranks (from_to 1 16) refl (λ ns n. (n.count, n.fit)) in
      let steps = simple_in form.Steps (up_to 128) refl (λ ns n. (n.count, n.fit)) in
      let snapshot = simple_in form.Snapshot (from_to 1 128) refl (λ ns n. (n.count, n.fit)) in
      let regrid = simple_in form.Regrid (up_to 128) refl (λ ns n. (n.count, n.fit)) in
      let refine = simple_in form.Refine word_range refl (λ ns n. (n.count, n.fit)) in
      let flow = simple_in form.Flow (up_to 8) refl (λ ns n. (n.count, n.fit)) in
      let turns = simple_in form.Turns (up_to 8) refl (λ ns n. (n.count, n.fit)) in
      let shift = simple_in form.Shift (up_to 1000) refl (λ ns n. (n.count, n.fit)) in
      record {
        some_ranks = ranks.0;
        few_ranks = ranks.1;
        few_steps = steps.1;
        some_snapshot = snapshot.0;
        short_snapshot = snapshot.1;
        short_regrid = regrid.1;
        refine_fits = omega (arith, refine.1);
        uncrossed = uncrossed_is;
        few_flow = flow.1;
        few_turns = turns.1;
        near = shift.1;
      }

-- ---- the body

-- the headings of the first lines have the same numbers among all
abbrev Keeps : List Entry → List Entry → Type 0
Keeps all before = (f : Form) (k : ℕ) → is_heading f ≡ true → came f before ≡ true → given f k all ≡ given f k before

keeps_less : (all before : List Entry) (e : Entry) → AreSound (e ∷ before) → Keeps all (e ∷ before) → Keeps all before
keeps_less all before e sound keeps f k heading has =
    keeps f k heading (came_more before e f has) ∙ given_stays before e sound f k heading has

-- a heading's number at a line of the body
given_at : (all before : List Entry) (e : Entry) → AreSound (e ∷ before) → Keeps all (e ∷ before) → due_place e.form ≡ 13 → (f : Form) (k : ℕ) → is_heading f ≡ true
    → given f k all ≡ given f k before
given_at all before e sound keeps body f k heading =
    let low : place_of f ≤ 12 = leb-true (place_of f) 12 heading in
    let has = came_before before e sound f heading (omega (arith, body)) in
    keeps_less all before e sound keeps f k heading has

stretch_is : (low high cells : ℕ) → is_stretch low high cells ≡ true → IsStretch low high cells
stretch_is low high cells e =
    let parts = and_parts (leb low high) (ltb high cells) e in
    record { ordered = leb-true low high parts.0; inside = ltb-true high cells parts.1 }

fill_is : (all before : List Entry) (e : Entry) → AreSound (e ∷ before) → Keeps all (e ∷ before) → e.form ≡ form.Fill
    → IsFill (head_of all).roots (head_of all).side (fill_of (numbers_of e))
fill_is all before e sound keeps is =
    let ns = numbers_of e in
    let n = fitting before e sound form.Fill is in
    let kept = given_at all before e sound keeps (ap due_place is) in
    let holds : holds_fill (head_of before) ns ≡ true = not-false (holds_fill (head_of before) ns) (clear_of before e sound form.Fill is 3 (lit< tt)) in
    let x = and_parts _ _ holds in
    let y = and_parts _ _ x.1 in
    record {
      low_axes = refl;
      high_axes = refl;
      along_x = rw (kept form.Roots 0 refl, kept form.Side 0 refl) (stretch_is (slice_index ns 0) (slice_index ns 3) _ x.0);
      along_y = rw (kept form.Roots 1 refl, kept form.Side 0 refl) (stretch_is (slice_index ns 1) (slice_index ns 4) _ y.0);
      along_z = rw (kept form.Roots 2 refl, kept form.Side 0 refl) (stretch_is (slice_index ns 2) (slice_index ns 5) _ y.1);
      value_fits = small_at form.Fill ns n 6 (omega (arith, eqb-true (length ns) 7 n.count));
    }

fills_are : (all before : List Entry) → AreSound before → Keeps all before → All (IsFill (head_of all).roots (head_of all).side) (fills_of before)
fills_are all [] sound keeps = All-nil (IsFill (head_of all).roots (head_of all).side)
fills_are all (e ∷ before) sound keeps =
    All-append (IsFill (head_of all).roots (head_of all).side) (fills_of before) _ (fills_are all before sound.1 (keeps_less all before e sound keeps)) (one (same_form form.Fill e.form) refl)
  where
    one : (b : Bool) → same_form form.Fill e.form ≡ b → All (IsFill (head_of all).roots (head_of all).side) (cond b (fill_of (numbers_of e) ∷ []) [])
    one true is =
        All-cons (IsFill (head_of all).roots (head_of all).side) (fill_of (numbers_of e)) [] (fill_is all before e sound keeps (form_is form.Fill e.form is))
        (All-nil (IsFill (head_of all).roots (head_of all).side))
    one false is = All-nil (IsFill (head_of all).roots (head_of all).side)

order_is : (all before : List Entry) (e : Entry) → AreSound (e ∷ before) → Keeps all (e ∷ before) → e.form ≡ form.Order
    → All (λ rank. rank < given form.Ranks 0 all) (numbers_of e)
order_is all before e sound keeps is k d within =
    let ns = numbers_of e in
    let known : list_all (λ rank. ltb rank (given form.Ranks 0 before)) ns ≡ true = not-false _ (clear_of before e sound form.Order is 6 (lit< tt)) in
    let low = ltb-true (get_or ns k d) (given form.Ranks 0 before) (AllPass-from_list_all (λ rank. ltb rank (given form.Ranks 0 before)) ns known k d within) in
    let kept = given_at all before e sound keeps (ap due_place is) form.Ranks 0 refl in
    omega (arith, low, kept)

orders_are : (all before : List Entry) → AreSound before → Keeps all before → All (λ rank. rank < given form.Ranks 0 all) (order_of before)
orders_are all [] sound keeps = All-nil (λ rank. rank < given form.Ranks 0 all)
orders_are all (e ∷ before) sound keeps =
    All-append (λ rank. rank < given form.Ranks 0 all) (order_of before) _ (orders_are all before sound.1 (keeps_less all before e sound keeps)) (one (same_form form.Order e.form) refl)
  where
    one : (b : Bool) → same_form form.Order e.form ≡ b → All (λ rank. rank < given form.Ranks 0 all) (cond b (numbers_of e) [])
    one true is = order_is all before e sound keeps (form_is form.Order e.form is)
    one false is = All-nil (λ rank. rank < given form.Ranks 0 all)

-- ---- deaths

death_is : (all before : List Entry) (e : Entry) → AreSound (e ∷ before) → Keeps all (e ∷ before) → e.form ≡ form.Die
    → IsDeath (given form.Ranks 0 all) (number_at e 0, number_at e 1)
death_is all before e sound keeps is =
    let ns = numbers_of e in
    let n = fitting before e sound form.Die is in
    let low = leb-false (given form.Ranks 0 before) (number_at e 0) (clear_of before e sound form.Die is 4 (lit< tt)) in
    let kept = given_at all before e sound keeps (ap due_place is) form.Ranks 0 refl in
    (omega (arith, low, kept), small_at form.Die ns n 1 (omega (arith, eqb-true (length ns) 2 n.count)))

deaths_are : (all before : List Entry) → AreSound before → Keeps all before → (rank events : ℕ) → death_of rank before ≡ Some events
    → IsDeath (given form.Ranks 0 all) (rank, events)
deaths_are all [] sound keeps rank events dies = absurd (let no : ◌≡◌ {A = Option ℕ} None (Some events) = dies in cc)
deaths_are all (e ∷ before) sound keeps rank events dies =
    by_test (deaths_are all before sound.1 (keeps_less all before e sound keeps) rank events) (same_form form.Die e.form) (eqb (number_at e 0) rank) refl refl
  where
    dies_by : (a b : Bool) → same_form form.Die e.form ≡ a → eqb (number_at e 0) rank ≡ b → cond (a && b) (Some (number_at e 1)) (death_of rank before) ≡ Some events
    dies_by a b p q = rw (p, q) at dies

    by_test : (death_of rank before ≡ Some events → IsDeath (given form.Ranks 0 all) (rank, events)) → (a b : Bool) → same_form form.Die e.form ≡ a
        → eqb (number_at e 0) rank ≡ b → IsDeath (given form.Ranks 0 all) (rank, events)
    by_test earlier false b p q = earlier (dies_by false b p q)
    by_test earlier true false p q = earlier (dies_by true false p q)
    by_test earlier true true p q =
        let its : Some (number_at e 1) ≡ Some events = dies_by true true p q in
        let same : number_at e 1 ≡ events = cc in
        let its_rank = eqb-true (number_at e 0) rank q in
        let is = death_is all before e sound keeps (form_is form.Die e.form p) in
        (omega (arith, is.0, its_rank), omega (arith, is.1, same))

-- ---- rising ranks

rising_later : (ranks a : ℕ) (ds : List (ℕ × ℕ)) → Rising ranks (a + 1) ds → Rising ranks a ds
rising_later ranks a [] up = tt
rising_later ranks a (d ∷ ds) up = (let low = up.0 in omega arith, up.1)

listing_rises : (f : ℕ → Option ℕ) (ranks a n : ℕ) → ((rank events : ℕ) → f rank ≡ Some events → IsDeath ranks (rank, events))
    → Rising ranks a (flat_map (λ rank. listed rank (f rank)) (range_with_len a n))
listing_rises f ranks a zero known = tt
listing_rises f ranks a (suc n) known = one (listing_rises f ranks (a + 1) n known) (f a) refl
  where
    one : Rising ranks (a + 1) (flat_map (λ rank. listed rank (f rank)) (range_with_len (a + 1) n)) → (o : Option ℕ) → f a ≡ o
        → Rising ranks a (listed a o ++ flat_map (λ rank. listed rank (f rank)) (range_with_len (a + 1) n))
    one others None is = rising_later ranks a (flat_map (λ rank. listed rank (f rank)) (range_with_len (a + 1) n)) others
    one others (Some events) is =
        let d = known a events is in (omega arith, (d.0, (d.1, others)))

rising_deaths : (ranks a : ℕ) (ds : List (ℕ × ℕ)) → Rising ranks a ds → All (IsDeath ranks) ds
rising_deaths ranks a [] up = All-nil (IsDeath ranks)
rising_deaths ranks a (d ∷ ds) up = All-cons (IsDeath ranks) d ds (up.1.0, up.1.1.0) (rising_deaths ranks (d.0 + 1) ds up.1.1.1)

rising_ranks : (ranks a : ℕ) (ds : List (ℕ × ℕ)) → Rising ranks a ds → IsStrictlyIncreasing (map (λ (d : ℕ × ℕ). d.0) ds)
rising_ranks ranks a [] up k within = absurd (omega (arith, within))
rising_ranks ranks a (d ∷ []) up k within = absurd (omega (arith, within))
rising_ranks ranks a (d ∷ e ∷ ds) up zero within = let low = up.1.1.1.0 in omega arith
rising_ranks ranks a (d ∷ e ∷ ds) up (suc k) within =
    let next : suc (k + 1) ≡ suc k + 1 = omega arith in
    subst (λ n. get_or (map (λ (x : ℕ × ℕ). x.0) (d ∷ e ∷ ds)) (suc k) 0 < get_or (map (λ (x : ℕ × ℕ). x.0) (d ∷ e ∷ ds)) n 0) next
    (rising_ranks ranks (d.0 + 1) (e ∷ ds) up.1.1.1 k (omega (arith, within)))

-- ---- the whole

pub valid_lines : (all : List Entry) → AreSound all → came form.End all ≡ true → IsValid (case_of all)
valid_lines all sound ended =
    let keeps : Keeps all all = λ f k heading has. refl in
    let rising = listing_rises (λ rank. death_of rank all) (given form.Ranks 0 all) 0 16 (deaths_are all all sound keeps) in
    record {
      sized = sized all sound ended;
      scheduled = scheduled all sound ended;
      fills = fills_are all all sound keeps;
      deaths = rising_deaths _ 0 _ rising;
      rising_deaths = rising_ranks _ 0 _ rising;
      order = orders_are all all sound keeps;
    }

-- an input that is read spells a valid case
pub valid_reading : (bytes : List ℕ) (c : Case) → reading bytes ≡ Ok c → IsValid c
valid_reading bytes c read = by_length (ltb input_limit (length bytes)) refl
  where
    by_length : (b : Bool) → ltb input_limit (length bytes) ≡ b → IsValid c
    by_length true long = absurd (let no : Err (refusal 0 code.TooLong) ≡ Ok c = rw long at read in cc)
    by_length false short =
        let lines : reading_of_lines (lines_of bytes) ≡ Ok c = rw short at read in
        let g = gives (length (lines_of bytes) + 1) [] (entries_from 1 (lines_of bytes)) c tt lines in
        subst IsValid (sym g.is) (valid_lines g.lines g.sound g.ended)
