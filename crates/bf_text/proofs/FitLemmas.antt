-- Numbers in the ranges of a form have 32 bits.
use Rattle.std.proofs.Common.{◌≡◌, ℕ, ◌≤◌, Bool, true, false, leb, List, [], ◌∷◌, Some, None, length, refl, sym, ◌∙◌, arith, subst}
use Rattle.std.specs.List.{list_all, find}
use Rattle.std.specs.Str.Parse.{digits_value}
use Rattle.std.proofs.lemmas.Bool.{and_parts, and_from, leb-true, le-leb, eqb-true, false_from_ne_true}
use Rattle.std.proofs.lemmas.List.{length-map}
use Rattle.bf_text.specs.declared.form.Range.{Range}
use Rattle.bf_text.specs.declared.form.Form.{Form}
use Rattle.bf_text.specs.declared.form.Form.TheVariants as form
use Rattle.bf_text.specs.declared.code.Code.TheVariants as code
use Rattle.bf_text.specs.Codes.{word_codes}
use Rattle.bf_text.specs.Forms.{word_range, ranges_of, takes, is_within, are_within, fits}
use Rattle.bf_text.specs.Entries.{Entry, numbers_of}
use Rattle.bf_text.specs.Faults.{Known, has_word_cause, cause_of}

abbrev is_word_range : Range → Bool
is_word_range r = leb r.greatest 4294967295

within_small : (r : Range) (n : ℕ) → is_word_range r ≡ true → is_within r n ≡ true → is_within word_range n ≡ true
within_small r n small e =
    let parts = and_parts (leb r.least n) (leb n r.greatest) e in
    let high : n ≤ 4294967295 = omega (arith, leb-true n r.greatest parts.1, leb-true r.greatest 4294967295 small) in
    and_from (leb 0 n) (leb n 4294967295) (le-leb 0 n (omega arith)) (le-leb n 4294967295 high)

all_small : (ranges : List Range) (numbers : List ℕ) → length numbers ≡ length ranges → list_all is_word_range ranges ≡ true
    → are_within ranges numbers ≡ true → list_all (is_within word_range) numbers ≡ true
all_small [] [] same small e = refl
all_small [] (n ∷ numbers) same small e = absurd (omega (arith, same))
all_small (r ∷ ranges) [] same small e = refl
all_small (r ∷ ranges) (n ∷ numbers) same small e =
    let s = and_parts (is_word_range r) (list_all is_word_range ranges) small in
    let w = and_parts (is_within r n) (are_within ranges numbers) e in
    and_from (is_within word_range n) (list_all (is_within word_range) numbers) (within_small r n s.0 w.0)
    (all_small ranges numbers (omega (arith, same)) s.1 w.1)

pub small_when_fits : (f : Form) (ns : List ℕ) → takes f (length ns) ≡ true → fits f ns ≡ true → list_all (is_within word_range) ns ≡ true
small_when_fits form.Forest ns count e = all_small (ranges_of form.Forest) ns (eqb-true (length ns) (length (ranges_of form.Forest)) count) refl e
small_when_fits form.Roots ns count e = all_small (ranges_of form.Roots) ns (eqb-true (length ns) (length (ranges_of form.Roots)) count) refl e
small_when_fits form.Side ns count e =
    all_small (ranges_of form.Side) ns (eqb-true _ _ count) refl (and_parts (are_within (ranges_of form.Side) ns) _ e).0
small_when_fits form.Levels ns count e = all_small (ranges_of form.Levels) ns (eqb-true (length ns) (length (ranges_of form.Levels)) count) refl e
small_when_fits form.Ranks ns count e = all_small (ranges_of form.Ranks) ns (eqb-true (length ns) (length (ranges_of form.Ranks)) count) refl e
small_when_fits form.Steps ns count e = all_small (ranges_of form.Steps) ns (eqb-true (length ns) (length (ranges_of form.Steps)) count) refl e
small_when_fits form.Snapshot ns count e = all_small (ranges_of form.Snapshot) ns (eqb-true (length ns) (length (ranges_of form.Snapshot)) count) refl e
small_when_fits form.Regrid ns count e = all_small (ranges_of form.Regrid) ns (eqb-true (length ns) (length (ranges_of form.Regrid)) count) refl e
small_when_fits form.Refine ns count e = all_small (ranges_of form.Refine) ns (eqb-true (length ns) (length (ranges_of form.Refine)) count) refl e
small_when_fits form.Coarsen ns count e = all_small (ranges_of form.Coarsen) ns (eqb-true (length ns) (length (ranges_of form.Coarsen)) count) refl e
small_when_fits form.Flow ns count e = all_small (ranges_of form.Flow) ns (eqb-true (length ns) (length (ranges_of form.Flow)) count) refl e
small_when_fits form.Turns ns count e = all_small (ranges_of form.Turns) ns (eqb-true (length ns) (length (ranges_of form.Turns)) count) refl e
small_when_fits form.Shift ns count e = all_small (ranges_of form.Shift) ns (eqb-true (length ns) (length (ranges_of form.Shift)) count) refl e
small_when_fits form.Fill ns count e = all_small (ranges_of form.Fill) ns (eqb-true (length ns) (length (ranges_of form.Fill)) count) refl e
small_when_fits form.Die ns count e = all_small (ranges_of form.Die) ns (eqb-true (length ns) (length (ranges_of form.Die)) count) refl e
small_when_fits form.Order ns count e = e
small_when_fits form.End ns count e = all_small (ranges_of form.End) ns (eqb-true (length ns) (length (ranges_of form.End)) count) refl e
small_when_fits form.Other ns count e = absurd (let no : false ≡ true = count in cc)

pub large_unfit : (f : Form) (ns : List ℕ) → takes f (length ns) ≡ true → list_all (is_within word_range) ns ≡ false → fits f ns ≡ false
large_unfit f ns count large =
    false_from_ne_true (fits f ns) (λ e. let s = small_when_fits f ns count e in let clash : true ≡ false = sym s ∙ large in cc)

-- a number of more than 32 bits is out of its range, whatever the form is
pub large_cause : (known : Known) (e : Entry) → find (has_word_cause known e) word_codes ≡ None → takes e.form (length e.arguments) ≡ true
    → list_all (is_within word_range) (numbers_of e) ≡ false → cause_of known e ≡ Some code.OutOfRange
large_cause known e none count large =
    let same = length-map e.arguments (digits_value 10) in
    let unfit = large_unfit e.form (numbers_of e) (subst (λ n. takes e.form n ≡ true) (sym same) count) large in
    rw (none, unfit) refl
