-- The first line and the first word of bytes, by where a byte is found.
use Rattle.std.proofs.Common.{◌≡◌, ℕ, zero, suc, ◌+◌, ◌<◌, ◌≤◌, Bool, true, false, eqb, not, List, [], ◌∷◌, Some, None, length, take, drop, get_or, refl, sym, ap, subst, ◌∙◌, inl, inr, arith}
use Rattle.std.specs.List.{slice_split, filter, position, position_or_len, before_first, onto_first}
use Rattle.std.proofs.lemmas.Bool.{cases_lt, lt-ltb, le-ltb, ne_eqb}
use Rattle.std.proofs.lemmas.List.{take_all}
use Rattle.std.proofs.lemmas.List.Splits.{slice_split_first, slice_split_none, slice_split-cons_yes, slice_split-cons_no}
use Rattle.std.proofs.lemmas.List.Sums.{fails_before_first, passes_at_first}
use Rattle.bf_text.specs.Lines.{is_feed, is_hash, is_blank, is_some_word, without_empty_end, lines_of, words_of, BeginsWord}

-- ---- a byte that is found, or none

pub record IsFirst (p : ℕ → Bool) (xs : List ℕ) (i : ℕ) : Type 0 where
  pub within : i < length xs
  pub place : position_or_len p xs ≡ i

pub found_at : (p : ℕ → Bool) (xs : List ℕ) (i : ℕ) → position p xs ≡ Some i → IsFirst p xs i
found_at p xs i e =
    elim (cases_lt (position_or_len p xs) (length xs)) [
      | inl lt ↦
          let t = lt-ltb (position_or_len p xs) (length xs) lt in
          let same : Some (position_or_len p xs) ≡ Some i = rw t at e in
          let place : position_or_len p xs ≡ i = cc in
          record { within = omega arith; place = place }
      | inr past ↦
          let t = le-ltb (position_or_len p xs) (length xs) past in
          let none : None ≡ Some i = rw t at e in
          absurd cc
    ]

pub found_none : (p : ℕ → Bool) (xs : List ℕ) → position p xs ≡ None → length xs ≤ position_or_len p xs
found_none p xs e =
    elim (cases_lt (position_or_len p xs) (length xs)) [
      | inl lt ↦
          let t = lt-ltb (position_or_len p xs) (length xs) lt in
          let some : Some (position_or_len p xs) ≡ None = rw t at e in
          absurd cc
      | inr past ↦ past
    ]

pub some_bytes : (xs : List ℕ) → false ≡ eqb (length xs) 0 → 0 < length xs
some_bytes [] e = absurd (let no : false ≡ true = e in cc)
some_bytes (x ∷ xs) e = omega arith

-- ---- parts

pub split_found : (p : ℕ → Bool) (xs : List ℕ) (i : ℕ) → position p xs ≡ Some i → slice_split p xs ≡ take i xs ∷ slice_split p (drop (i + 1) xs)
split_found p xs i e =
    let f = found_at p xs i e in
    subst (λ (k : ℕ). slice_split p xs ≡ take k xs ∷ slice_split p (drop (k + 1) xs)) f.place
    (slice_split_first p xs 0 (let at = f.place in let within = f.within in omega arith))

pub split_whole : (p : ℕ → Bool) (xs : List ℕ) → position p xs ≡ None → slice_split p xs ≡ xs ∷ []
split_whole p xs e =
    let past = found_none p xs e in
    slice_split_none p xs (λ k d within. fails_before_first p xs k d (omega arith))

-- there is a first part
pub record Parts (p : ℕ → Bool) (xs : List ℕ) : Type 0 where
  pub first : List ℕ
  pub others : List (List ℕ)
  pub are : slice_split p xs ≡ first ∷ others

parts_cons : (p : ℕ → Bool) (x : ℕ) (xs : List ℕ) (b : Bool) → p x ≡ b → Parts p xs → Parts p (x ∷ xs)
parts_cons p x xs true e rest = record { first = []; others = slice_split p xs; are = slice_split-cons_yes p x xs e }
parts_cons p x xs false e rest =
    record { first = x ∷ rest.first; others = rest.others; are = slice_split-cons_no p x xs e ∙ ap (onto_first x) rest.are }

pub parts_of : (p : ℕ → Bool) (xs : List ℕ) → Parts p xs
parts_of p [] = record { first = []; others = []; are = refl }
parts_of p (x ∷ xs) = parts_cons p x xs (p x) refl (parts_of p xs)

-- ---- lines

keep_part : (part q : List ℕ) (qs : List (List ℕ)) → without_empty_end (part ∷ (q ∷ qs)) ≡ part ∷ without_empty_end (q ∷ qs)
keep_part [] q qs = refl
keep_part (b ∷ part) q qs = refl

pub keep_split : (p : ℕ → Bool) (part xs : List ℕ) → without_empty_end (part ∷ slice_split p xs) ≡ part ∷ without_empty_end (slice_split p xs)
keep_split p part xs =
    let parts = parts_of p xs in
    subst (λ (ps : List (List ℕ)). without_empty_end (part ∷ ps) ≡ part ∷ without_empty_end ps) (sym parts.are) (keep_part part parts.first parts.others)

pub line_found : (xs : List ℕ) (i : ℕ) → position is_feed xs ≡ Some i → lines_of xs ≡ take i xs ∷ lines_of (drop (i + 1) xs)
line_found xs i e = ap without_empty_end (split_found is_feed xs i e) ∙ keep_split is_feed (take i xs) (drop (i + 1) xs)

pub line_whole : (xs : List ℕ) → 0 < length xs → position is_feed xs ≡ None → lines_of xs ≡ xs ∷ []
line_whole [] some e = absurd (omega arith)
line_whole (x ∷ xs) some e = ap without_empty_end (split_whole is_feed (x ∷ xs) e)

-- ---- comments

pub comment_found : (xs : List ℕ) (i : ℕ) → position is_hash xs ≡ Some i → take i xs ≡ before_first is_hash xs
comment_found xs i e = ap (λ (k : ℕ). take k xs) (sym (found_at is_hash xs i e).place)

pub comment_none : (xs : List ℕ) → position is_hash xs ≡ None → xs ≡ before_first is_hash xs
comment_none xs e = sym (take_all (position_or_len is_hash xs) xs (found_none is_hash xs e))

-- ---- words

some_word : (b : ℕ) (xs : List ℕ) → is_some_word (b ∷ xs) ≡ true
some_word b xs = let ne : length (b ∷ xs) ≡ 0 → ⊥ = λ e. omega (arith, e) in ap not (ne_eqb (length (b ∷ xs)) 0 ne)

kept_word : (b : ℕ) (xs : List ℕ) (ws : List (List ℕ)) → filter is_some_word ((b ∷ xs) ∷ ws) ≡ (b ∷ xs) ∷ filter is_some_word ws
kept_word b xs ws = rw (some_word b xs) refl

word_found_at : (b : ℕ) (xs : List ℕ) (i : ℕ) → is_blank b ≡ false → position is_blank (b ∷ xs) ≡ Some i
    → words_of (b ∷ xs) ≡ take i (b ∷ xs) ∷ words_of (drop (i + 1) (b ∷ xs))
word_found_at b xs zero plain e =
    let f = found_at is_blank (b ∷ xs) 0 e in
    let at : is_blank (get_or (b ∷ xs) 0 0) ≡ true =
    subst (λ (k : ℕ). is_blank (get_or (b ∷ xs) k 0) ≡ true) f.place (passes_at_first is_blank (b ∷ xs) 0 (let p = f.place in let w = f.within in omega arith)) in
    absurd (let yes : is_blank b ≡ true = at in let clash : true ≡ false = sym yes ∙ plain in cc)
word_found_at b xs (suc i) plain e =
    ap (filter is_some_word) (split_found is_blank (b ∷ xs) (suc i) e)
    ∙ kept_word b (take i xs) (slice_split is_blank (drop (suc i + 1) (b ∷ xs)))

pub word_found : (xs : List ℕ) (i : ℕ) → BeginsWord xs → 0 < length xs → position is_blank xs ≡ Some i → words_of xs ≡ take i xs ∷ words_of (drop (i + 1) xs)
word_found [] i begins some e = absurd (omega arith)
word_found (x ∷ xs) i begins some e = word_found_at x xs i begins e

pub word_whole : (xs : List ℕ) → 0 < length xs → position is_blank xs ≡ None → words_of xs ≡ xs ∷ []
word_whole [] some e = absurd (omega arith)
word_whole (x ∷ xs) some e = ap (filter is_some_word) (split_whole is_blank (x ∷ xs) e) ∙ kept_word x xs []
