-- A line of canonical text, and what its words are.
use Rattle.std.proofs.Common.{◌≡◌, ◌≢◌, ℕ, ◌+◌, ◌<◌, ◌≤◌, ◌^◌, Bool, true, false, not, ◌&&◌, ◌||◌, ltb, leb, eqb, List, [], ◌∷◌, ◌++◌, length, map, refl, ap, ◌∙◌, arith, rules, tests, lit<, ◌%◌}
use Rattle.std.specs.Prelude.{decimal}
use Rattle.std.specs.Char.{is_ascii_digit}
use Rattle.std.specs.List.{list_all, filter, slice_split, onto_first}
use Rattle.std.specs.Str.Parse.{digits_value}
use Rattle.std.proofs.lemmas.Bool.{and_parts, and_from, or_from, leb-true, ltb-true, ne_eqb, le-leb}
use Rattle.std.proofs.lemmas.Fmt.{decimal_by_steps, decimal_is_IsNumeral, length-decimal-le, decimal_nonempty}
use Rattle.std.proofs.lemmas.List.{append-nil}
use Rattle.std.proofs.lemmas.List.Splits.{slice_split-cons_yes, slice_split-cons_no}
use Rattle.bf_case.specs.CaseText.{spaced}
use Rattle.bf_text.specs.Lines.{is_blank, is_plain, is_some_word, words_of}
use Rattle.bf_text.specs.Entries.{is_number}

-- a letter or a digit, among others: a byte of a word that begins no comment
abbrev pub is_letter : ℕ → Bool
is_letter b = leb 36 b && leb b 126

-- a letter or a blank
abbrev pub is_spaced : ℕ → Bool
is_spaced b = eqb b 32 || is_letter b

pub record LetterBounds (b : ℕ) : Type 0 where
  pub low : 36 ≤ b
  pub high : b ≤ 126

letter_bounds : (b : ℕ) → is_letter b ≡ true → LetterBounds b
letter_bounds b e =
    let p = and_parts (leb 36 b) (leb b 126) e in
    record { low = leb-true 36 b p.0; high = leb-true b 126 p.1 }

-- ---- parts of a list that is cut

pub split_after : (p q : ℕ → Bool) → ((b : ℕ) → q b ≡ true → p b ≡ false) → (xs : List ℕ) (y : ℕ) (ys : List ℕ) → list_all q xs ≡ true → p y ≡ true
    → slice_split p (xs ++ y ∷ ys) ≡ xs ∷ slice_split p ys
split_after p q apart [] y ys all cut = slice_split-cons_yes p y ys cut
split_after p q apart (x ∷ xs) y ys all cut =
    let parts = and_parts (q x) (list_all q xs) all in
    slice_split-cons_no p x (xs ++ y ∷ ys) (apart x parts.0) ∙ ap (onto_first x) (split_after p q apart xs y ys parts.1 cut)

pub split_none : (p q : ℕ → Bool) → ((b : ℕ) → q b ≡ true → p b ≡ false) → (xs : List ℕ) → list_all q xs ≡ true → slice_split p xs ≡ xs ∷ []
split_none p q apart [] all = refl
split_none p q apart (x ∷ xs) all =
    let parts = and_parts (q x) (list_all q xs) all in
    slice_split-cons_no p x xs (apart x parts.0) ∙ ap (onto_first x) (split_none p q apart xs parts.1)

pub all_append : (q : ℕ → Bool) (xs ys : List ℕ) → list_all q xs ≡ true → list_all q ys ≡ true → list_all q (xs ++ ys) ≡ true
all_append q [] ys a b = b
all_append q (x ∷ xs) ys a b =
    let parts = and_parts (q x) (list_all q xs) a in and_from (q x) (list_all q (xs ++ ys)) parts.0 (all_append q xs ys parts.1 b)

pub all_weaker : (p q : ℕ → Bool) → ((b : ℕ) → p b ≡ true → q b ≡ true) → (xs : List ℕ) → list_all p xs ≡ true → list_all q xs ≡ true
all_weaker p q weaker [] all = refl
all_weaker p q weaker (x ∷ xs) all =
    let parts = and_parts (p x) (list_all p xs) all in and_from (q x) (list_all q xs) (weaker x parts.0) (all_weaker p q weaker xs parts.1)

-- ---- bytes apart

or_true : (x : Bool) → (x || true) ≡ true
or_true true = refl
or_true false = refl

digit_passes : (k : ℕ) → k < 10 → is_ascii_digit (48 + k) ≡ true
digit_passes k small = search (rules, tests)

pub spaced_cases : (b : ℕ) → is_spaced b ≡ true → (b ≢ 10) × ((b ≢ 13) × (b ≢ 35))
spaced_cases b e = search (rules, tests)

letter_not_blank : (b : ℕ) → is_letter b ≡ true → is_blank b ≡ false
letter_not_blank b e = let l = letter_bounds b e in or_from _ _ (ne_eqb b 32 (λ s. omega (arith, l.low))) (ne_eqb b 9 (λ s. omega (arith, l.low)))

digit_is_letter : (b : ℕ) → is_ascii_digit b ≡ true → is_letter b ≡ true
digit_is_letter b e = search (rules, tests)

pub letter_is_spaced : (b : ℕ) → is_letter b ≡ true → is_spaced b ≡ true
letter_is_spaced b e = rw e (or_true (eqb b 32))

-- ---- numbers

digits_pass : (n : ℕ) → n < 2 ^ 64 → list_all is_ascii_digit (decimal n) ≡ true
digits_pass n fits =
    decimal_by_steps (λ k ds. list_all is_ascii_digit ds ≡ true)
    (λ k one. and_from (is_ascii_digit (48 + k)) true (digit_passes k one) refl)
    (λ k ds ten all. all_append is_ascii_digit ds ((48 + k % 10) ∷ []) all (and_from (is_ascii_digit (48 + k % 10)) true (digit_passes (k % 10) (omega arith)) refl))
    n fits

pub number_passes : (n : ℕ) → n < 2 ^ 32 → is_number (decimal n) ≡ true
number_passes n fits =
    and_from (leb 1 (length (decimal n))) _ (le-leb 1 (length (decimal n)) (decimal_nonempty n (omega arith)))
    (and_from (leb (length (decimal n)) 20) (list_all is_ascii_digit (decimal n))
    (le-leb (length (decimal n)) 20 (length-decimal-le 20 n (lit< tt) (omega arith) (omega arith))) (digits_pass n (omega arith)))

pub value_again : (n : ℕ) → n < 2 ^ 32 → digits_value 10 (decimal n) ≡ n
value_again n fits = (decimal_is_IsNumeral n (omega arith)).1

-- ---- the words of a line

pub spaced_passes : (ns : List ℕ) → list_all (λ n. ltb n (2 ^ 32)) ns ≡ true → list_all is_spaced (spaced ns) ≡ true
spaced_passes [] all = refl
spaced_passes (n ∷ ns) all =
    let parts = and_parts (ltb n (2 ^ 32)) (list_all (λ m. ltb m (2 ^ 32)) ns) all in
    all_append is_spaced (decimal n) (spaced ns)
    (all_weaker is_ascii_digit is_spaced (λ b e. letter_is_spaced b (digit_is_letter b e)) (decimal n) (digits_pass n (omega (arith, ltb-true n (2 ^ 32) parts.0))))
    (spaced_passes ns parts.1)

some_word : (w : List ℕ) → 0 < length w → is_some_word w ≡ true
some_word w some = ap not (ne_eqb (length w) 0 (λ e. omega (arith, e)))

pub words_again : (w : List ℕ) (ns : List ℕ) → 0 < length w → list_all is_letter w ≡ true → list_all (λ n. ltb n (2 ^ 32)) ns ≡ true
    → words_of (w ++ spaced ns) ≡ w ∷ map decimal ns
words_again w [] some letters all =
    ap words_of (append-nil w) ∙ ap (filter is_some_word) (split_none is_blank is_letter letter_not_blank w letters) ∙ rw (some_word w some) refl
words_again w (n ∷ ns) some letters all =
    let parts = and_parts (ltb n (2 ^ 32)) (list_all (λ m. ltb m (2 ^ 32)) ns) all in
    let fits : n < 2 ^ 32 = ltb-true n (2 ^ 32) parts.0 in
    let more = words_again (decimal n) ns (decimal_nonempty n (omega arith))
    (all_weaker is_ascii_digit is_letter digit_is_letter (decimal n) (digits_pass n (omega arith))) parts.1 in
    ap (filter is_some_word) (split_after is_blank is_letter letter_not_blank w 32 (decimal n ++ spaced ns) letters refl)
    ∙ rw (some_word w some) (ap (λ ws. w ∷ ws) more)

pub spaced_plain : (b : ℕ) → is_spaced b ≡ true → is_plain b ≡ true
spaced_plain b e = search (rules, tests)
