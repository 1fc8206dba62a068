-- Lemmas on the texts of ids.
use Rattle.std.proofs.Common.{subst, zero, ◌≡◌, ◌≢◌, ℕ, suc, ◌<◌, ◌≤◌, ◌+◌, ◌^◌, List, [], ◌∷◌, ◌++◌, length, get_or, refl, ap, sym, ◌∙◌, arith, decimal, MatchOption, IsSomeAnd, Option, Some, None, Result, Ok, Err}
use Rattle.std.specs.Str.Parse.{AllDigits, digits_value, ParsesUnsigned}
use Rattle.std.specs.Result.{result_ok}
use Rattle.std.proofs.lemmas.List.{append-nil, get_or-map, length-map}
use Rattle.std.proofs.lemmas.Fmt.{decimal_injective, digits_decimal, first_decimal, decimal_nonempty, parse-decimal, decimal-digits_value, decimal_digit}
use Rattle.std.proofs.lemmas.Str.Parse.{IsNumeralModel, numerals_by_value, tells_digits, not_in_digits, parse_plain}
use Rattle.bf_id.proofs.Boxes.{same_id}
use Rattle.bf_id.specs.Id.{BlockId, IsId, root_id}
use Rattle.bf_id.specs.IdText.{text_of, octants_text}
use Rattle.bf_id.specs.TextParts.{octant_digits, HasParts, IsPlain}

own : IsNumeralModel (AllDigits 10) (digits_value 10)
own = numerals_by_value (AllDigits 10) tells_digits

-- no full stop stands in the text
abbrev pub HasNoStop : List ℕ → Type 0
HasNoStop text = (k : ℕ) → k < length text → get_or text k 0 ≢ 46

no_stop_in_decimal : (n : ℕ) → n < 2 ^ 32 → HasNoStop (decimal n)
no_stop_in_decimal n small = not_in_digits own (decimal n) 46 (digits_decimal own n (omega arith)) (λ r. omega arith)

-- a text is cut at its first full stop in one way
cut_once : (xs ys a b : List ℕ) → HasNoStop xs → HasNoStop ys → xs ++ 46 ∷ a ≡ ys ++ 46 ∷ b → (xs ≡ ys) × (a ≡ b)
cut_once [] [] a b p q e = (refl, cc)
cut_once [] (y ∷ ys) a b p q e = absurd (q 0 (omega arith) cc)
cut_once (x ∷ xs) [] a b p q e = absurd (p 0 (omega arith) cc)
cut_once (x ∷ xs) (y ∷ ys) a b p q e =
    let same : xs ++ 46 ∷ a ≡ ys ++ 46 ∷ b = cc in
    let r = cut_once xs ys a b (λ k h. p (suc k) (omega arith)) (λ k h. q (suc k) (omega arith)) same in
    (cc, r.1)

-- a text round a full stop has one
stop_inside : (xs a : List ℕ) → HasNoStop (xs ++ 46 ∷ a) → ⊥
stop_inside [] a p = p 0 (omega arith) refl
stop_inside (x ∷ xs) a p = stop_inside xs a (λ k h. p (suc k) (omega arith))

-- a numeral is plain
pub plain_decimal : (n : ℕ) (text : List ℕ) → n < 2 ^ 32 → decimal n ≡ text → IsPlain text
plain_decimal n text small e =
    let some = decimal_nonempty n (omega arith) in
    let P : List ℕ → Type 0 = IsPlain in
    subst P e record {
      unsigned = not_in_digits own (decimal n) 43 (digits_decimal own n (omega arith)) (λ r. omega arith) 0 some;
      lone_zero = λ zero_first. lone n small zero_first;
    }
  where
    lone : (m : ℕ) → m < 2 ^ 32 → get_or (decimal m) 0 0 ≡ 48 → length (decimal m) ≡ 1
    lone zero small e = ap length (decimal_digit 0 (omega arith))
    lone (suc m) small e = absurd (omega (arith, first_decimal (suc m) (omega arith) (omega arith)))

-- what a plain text is parsed as is what it spells
pub root_found : {E : Type 0} (text : List ℕ) (r : Result ℕ E) → IsPlain text → ParsesUnsigned 32 10 text r → MatchOption (result_ok r) ((root : ℕ) → root < 2 ^ 32 → decimal root ≡ text → ⊥) (λ root. decimal root ≡ text)
root_found {E} text (Ok n) plain h =
    let p = parse_plain own {E = E} 32 text (Ok n) h plain.unsigned in
    let value : ℕ → List ℕ = decimal in
    ap value p.1 ∙ decimal-digits_value own text p.0.0 p.0.1 plain.lone_zero (omega (arith, p.0.2))
root_found {E} text (Err e) plain h = λ root small same.
    let wrong = parse-decimal {E = E} 32 root text (Err e) small (omega arith) (sym same) h in
    cc

octants_are : (n : ℕ) (octants text : List ℕ) → HasNoStop text → decimal n ++ octants_text octants ≡ text → decimal n ≡ text
octants_are n [] text p e = sym (append-nil (decimal n)) ∙ e
octants_are n (octant ∷ octants) text p e =
    let P : List ℕ → Type 0 = HasNoStop in
    absurd (stop_inside (decimal n) (octant_digits (octant ∷ octants)) (subst P (sym e) p))

-- a text without a full stop spells a root, if it spells an id
pub whole_text : (i : BlockId) (text : List ℕ) → HasNoStop text → text_of i ≡ text → decimal i.root ≡ text
whole_text i text p e = octants_are i.root i.digits text p e

-- the text of an id, from its parts
pub text_from_parts : (i : BlockId) (root octants : List ℕ) → HasParts i root octants → text_of i ≡ root ++ 46 ∷ octants
text_from_parts i root octants parts = both i.digits parts.front parts.back parts.deep
  where
    both : (digits : List ℕ) → decimal i.root ≡ root → octant_digits digits ≡ octants → digits ≢ [] → decimal i.root ++ octants_text digits ≡ root ++ 46 ∷ octants
    both [] front back deep = absurd (deep refl)
    both (d ∷ digits) front back deep =
        let with : List ℕ → List ℕ = λ xs. xs ++ 46 ∷ octant_digits (d ∷ digits) in
        let behind : List ℕ → List ℕ = λ xs. root ++ 46 ∷ xs in
        ap with front ∙ ap behind back

-- the parts of an id's text, from the text
pub parts_from_text : (i : BlockId) (root octants : List ℕ) → IsId i → HasNoStop root → text_of i ≡ root ++ 46 ∷ octants → HasParts i root octants
parts_from_text i root octants valid p e = both i.digits refl e
  where
    both : (digits : List ℕ) → i.digits ≡ digits → decimal i.root ++ octants_text digits ≡ root ++ 46 ∷ octants → HasParts i root octants
    both [] is e =
        let P : List ℕ → Type 0 = HasNoStop in
        absurd (stop_inside root octants (subst P (sym (append-nil (decimal i.root)) ∙ e) (no_stop_in_decimal i.root valid.root_fits)))
    both (d ∷ digits) is e =
        let cut = cut_once (decimal i.root) root (octant_digits (d ∷ digits)) octants (no_stop_in_decimal i.root valid.root_fits) p e in
        record { front = cut.0; back = ap octant_digits is ∙ cut.1; deep = λ none. let no : d ∷ digits ≡ [] = cc in cc }

-- an answer on the parts of a text is one on the text
pub parted_text : (text root octants : List ℕ) (o : Option BlockId) → text ≡ root ++ 46 ∷ octants → HasNoStop root → MatchOption o ((i : BlockId) → IsId i → HasParts i root octants → ⊥) (λ i. HasParts i root octants) → MatchOption o ((i : BlockId) → IsId i → text_of i ≡ text → ⊥) (λ i. text_of i ≡ text)
parted_text text root octants None e p none = λ i valid same. none i valid (parts_from_text i root octants valid p (same ∙ e))
parted_text text root octants (Some i) e p parts = text_from_parts i root octants parts ∙ sym e

-- an answer on a text without a full stop, from one on its root
pub whole_found : (text : List ℕ) (r : Option ℕ) (o : Option BlockId) → HasNoStop text → MatchOption r ((n : ℕ) → n < 2 ^ 32 → decimal n ≡ text → ⊥) (λ n. decimal n ≡ text) → MatchOption r (o ≡ None) (λ n. IsSomeAnd o (λ i. i ≡ root_id n)) → MatchOption o ((i : BlockId) → IsId i → text_of i ≡ text → ⊥) (λ i. text_of i ≡ text)
whole_found text None None p none made = λ i valid same. none i.root valid.root_fits (whole_text i text p same)
whole_found text None (Some i) p none made = cc
whole_found text (Some n) None p spelled made = absurd made
whole_found text (Some n) (Some i) p spelled made = ap text_of made ∙ (append-nil (decimal n) ∙ spelled)

-- an id's octants are digits from 0 to 7
pub digit_of : (i : BlockId) (digits : List ℕ) (k : ℕ) → IsId i → octant_digits i.digits ≡ digits → k < length digits → (48 ≤ get_or digits k 0) × (get_or digits k 0 ≤ 55)
digit_of i digits k valid e within =
    let same_length = ap (λ (ds : List ℕ). length ds) e in
    let within_octants : k < length i.digits = omega (arith, length-map i.digits (λ o. 48 + o)) in
    let at = get_or-map (λ o. 48 + o) i.digits k 0 0 within_octants in
    let same_digit = ap (λ (ds : List ℕ). get_or ds k 0) e in
    let small = valid.octal k 0 within_octants in
    (omega arith, omega arith)

octant_digits-differ : (xs ys : List ℕ) → octant_digits xs ≡ octant_digits ys → xs ≡ ys
octant_digits-differ [] [] e = refl
octant_digits-differ [] (y ∷ ys) e = cc
octant_digits-differ (x ∷ xs) [] e = cc
octant_digits-differ (x ∷ xs) (y ∷ ys) e =
    let heads : 48 + x ≡ 48 + y = cc in
    let tails : octant_digits xs ≡ octant_digits ys = cc in
    let head : x ≡ y = omega arith in
    let tail = octant_digits-differ xs ys tails in
    cc

same_parts : (m n : ℕ) (xs ys : List ℕ) → m < 2 ^ 32 → n < 2 ^ 32 → decimal m ++ octants_text xs ≡ decimal n ++ octants_text ys → (decimal m ≡ decimal n) × (xs ≡ ys)
same_parts m n [] [] small fits e = (sym (append-nil (decimal m)) ∙ (e ∙ append-nil (decimal n)), refl)
same_parts m n [] (y ∷ ys) small fits e =
    let P : List ℕ → Type 0 = HasNoStop in
    absurd (stop_inside (decimal n) (octant_digits (y ∷ ys)) (subst P (sym (append-nil (decimal m)) ∙ e) (no_stop_in_decimal m small)))
same_parts m n (x ∷ xs) [] small fits e =
    let P : List ℕ → Type 0 = HasNoStop in
    absurd (stop_inside (decimal m) (octant_digits (x ∷ xs)) (subst P (sym (append-nil (decimal n)) ∙ sym e) (no_stop_in_decimal n fits)))
same_parts m n (x ∷ xs) (y ∷ ys) small fits e =
    let cut = cut_once (decimal m) (decimal n) (octant_digits (x ∷ xs)) (octant_digits (y ∷ ys)) (no_stop_in_decimal m small) (no_stop_in_decimal n fits) e in
    (cut.0, octant_digits-differ (x ∷ xs) (y ∷ ys) cut.1)

-- no two ids have the same text
pub text_of-differ : (i j : BlockId) → IsId i → IsId j → text_of i ≡ text_of j → i ≡ j
text_of-differ i j valid other e =
    let parts = same_parts i.root j.root i.digits j.digits valid.root_fits other.root_fits e in
    same_id i j (decimal_injective i.root j.root (omega (arith, valid.root_fits)) (omega (arith, other.root_fits)) parts.0) parts.1
