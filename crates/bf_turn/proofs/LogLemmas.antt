-- Logs that begin with others, and the entries of a party in them.
use Rattle.std.proofs.Common.{◌≡◌, ℕ, ◌+◌, ◌≤◌, ◌⊎◌, Bool, true, false, cond, List, [], ◌∷◌, ◌++◌, length, arith, refl, ap, sym, ◌∙◌, subst, append_assoc, length-append, ⊎_elim, eq-eqb}
use Rattle.std.specs.Prelude.{◌==◌, All, Contains, nat_le, if◌then◌else◌}
use Rattle.std.proofs.lemmas.Bool.{eqb-true}
use Rattle.std.proofs.lemmas.List.{append-nil}
use Rattle.std.proofs.lemmas.List.Elements.{filter-append, All-head, All-tail, All-nil, All-cons, All-same}
use Rattle.std.proofs.lemmas.List.Prefix.{front_rest}
use Rattle.std.proofs.lemmas.Bool.Decides.{leb_tells}
use mathlib.Core.Option.{some-injective}
use lib.ListN.{get_elem?}
use Rattle.bf_turn.specs.Logs.{entries_of, HasJust, StartsWith, GoesOn, after, longer, shorter}

module _ {A : Type 0} where
  pub starts_all : (l : List A) → StartsWith l l
  starts_all l = ([], sym (append-nil l))

  pub starts_none : (l : List A) → StartsWith l []
  starts_none l = (l, refl)

  pub starts_more : (l seen more : List A) → StartsWith l seen → StartsWith (l ++ more) seen
  starts_more l seen more s = (s.0 ++ more, ap (λ t. t ++ more) s.1 ∙ append_assoc seen s.0 more)

  -- of two beginnings of one list the longer begins with the other
  two_begin : (a b r t : List A) → a ++ r ≡ b ++ t → length a ≤ length b → StartsWith b a
  two_begin [] b r t e le = starts_none b
  two_begin (x ∷ a) [] r t e le = absurd (omega (arith, le))
  two_begin (x ∷ a) (y ∷ b) r t e le =
      let tails : a ++ r ≡ b ++ t = ap tail e in
      let heads : x ≡ y = some-injective x y (ap (λ l. get_elem? l 0) e) in
      let s = two_begin a b r t tails (omega (arith, le)) in
      (s.0, ap (λ l. y ∷ l) s.1 ∙ ap (λ h. h ∷ (a ++ s.0)) (sym heads))
    where
      tail : List A → List A
      tail [] = []
      tail (z ∷ zs) = zs

  pub begins_longer : (log a b : List A) → StartsWith log a → StartsWith log b → length a ≤ length b → StartsWith b a
  begins_longer log a b sa sb le = two_begin a b sa.0 sb.0 (sym sa.1 ∙ sb.1) le

  nothing : (l : List A) → length l ≡ 0 → l ≡ []
  nothing [] e = refl
  nothing (x ∷ xs) e = absurd (omega (arith, e))

  -- of two lists that come to one, what is left over is nothing
  left_over : (all a b : List A) → all ≡ a ++ b → all ≡ a → b ≡ []
  left_over all a b whole same =
      nothing b (let count : length a ≡ length a + length b = ap length (sym same ∙ whole) ∙ length-append a b in omega (arith, count))

  -- of two lists that come to nothing each is nothing
  pub first_of_nothing : (all a b : List A) → all ≡ a ++ b → all ≡ [] → a ≡ []
  first_of_nothing all a b whole none =
      nothing a (let count : length a + length b ≡ 0 = sym (ap length (sym none ∙ whole) ∙ length-append a b) in omega (arith, count))

  chosen : (b : Bool) (P : List A → Type 0) (x y : List A) → P x → P y → P (if b then x else y)
  chosen true P x y a c = a
  chosen false P x y a c = c

  -- a log that begins with two lists begins with the longer, and with the shorter
  pub begins_with_longer : (log a b : List A) → StartsWith log a → StartsWith log b → StartsWith log (longer a b)
  begins_with_longer log a b sa sb = chosen (nat_le (length a) (length b)) (StartsWith log) b a sb sa

  pub begins_with_shorter : (log a b : List A) → StartsWith log a → StartsWith log b → StartsWith log (shorter a b)
  begins_with_shorter log a b sa sb = chosen (nat_le (length a) (length b)) (StartsWith log) a b sa sb

  -- where the longer of two begins with the shorter, it begins with both
  pub begins_both : (a b : List A) → (length (shorter a b) ≤ length (longer a b) → StartsWith (longer a b) (shorter a b))
      → StartsWith (longer a b) a × StartsWith (longer a b) b
  begins_both a b = ⊎_elim
      (λ t. subst (λ c. (length (if c then a else b) ≤ length (if c then b else a) → StartsWith (if c then b else a) (if c then a else b))
      → StartsWith (if c then b else a) a × StartsWith (if c then b else a) b) (sym t.0) (λ f. (f t.1, starts_all b)))
      (λ t. subst (λ c. (length (if c then a else b) ≤ length (if c then b else a) → StartsWith (if c then b else a) (if c then a else b))
      → StartsWith (if c then b else a) a × StartsWith (if c then b else a) b) (sym t.0) (λ f. (starts_all a, f (omega (arith, t.1)))))
      (leb_tells (length a) (length b))

module _ {E : Type 0} (party_of : E → ℕ) where
  pub entries-append : (party : ℕ) (a b : List E) → entries_of party_of party (a ++ b) ≡ entries_of party_of party a ++ entries_of party_of party b
  entries-append party a b = filter-append (λ entry. party_of entry == party) a b

  -- what comes to nothing adds nothing
  pub entries-append_none : (party : ℕ) (a b : List E) → entries_of party_of party b ≡ [] → entries_of party_of party (a ++ b) ≡ entries_of party_of party a
  entries-append_none party a b none =
      entries-append party a b ∙ ap (λ l. entries_of party_of party a ++ l) none ∙ append-nil (entries_of party_of party a)

  pub none-entries-append : (party : ℕ) (a b : List E) → entries_of party_of party a ≡ [] → entries_of party_of party (a ++ b) ≡ entries_of party_of party b
  none-entries-append party a b none = entries-append party a b ∙ ap (λ l. l ++ entries_of party_of party b) none

  -- entries of some parties alone are none of another's
  pub none_of_others : (parties : List ℕ) (more : List E) → All (λ entry. Contains parties (party_of entry)) more
      → (party : ℕ) → (Contains parties party → ⊥) → entries_of party_of party more ≡ []
  none_of_others parties [] all party out = refl
  none_of_others parties (e ∷ es) all party out =
      at (party_of e == party) refl (none_of_others parties es (All-tail (λ entry. Contains parties (party_of entry)) e es all) party out)
    where
      at : (b : Bool) → (party_of e == party) ≡ b → entries_of party_of party es ≡ []
          → cond b (e ∷ entries_of party_of party es) (entries_of party_of party es) ≡ []
      at true is none = absurd (out (subst (Contains parties) (eqb-true (party_of e) party is) (All-head (λ entry. Contains parties (party_of entry)) e es all)))
      at false is none = none

  -- where a beginning has all entries of a party, so has each longer beginning
  of_between : (party : ℕ) (log a b : List E) → StartsWith log a → StartsWith log b → length a ≤ length b
      → entries_of party_of party log ≡ entries_of party_of party a → entries_of party_of party log ≡ entries_of party_of party b
  of_between party log a b sa sb le all =
      let s = begins_longer log a b sa sb le in
      let f : List E → List E = entries_of party_of party in
      let whole : f log ≡ f a ++ (f s.0 ++ f sb.0) =
      ap f sb.1 ∙ entries-append party b sb.0 ∙ ap (λ l. l ++ f sb.0) (ap f s.1 ∙ entries-append party a s.0) ∙ append_assoc (f a) (f s.0) (f sb.0) in
      let count : length (f s.0) + length (f sb.0) ≡ 0 = sym (length-append (f s.0) (f sb.0)) ∙ ap length (left_over (f log) (f a) (f s.0 ++ f sb.0) whole all) in
      ap f sb.1 ∙ entries-append_none party b sb.0 (nothing (f sb.0) (omega (arith, count)))

  -- the longer of two beginnings has all entries of each party of either
  pub of_longer : (party : ℕ) (log a b : List E) → StartsWith log a → StartsWith log b
      → (entries_of party_of party log ≡ entries_of party_of party a) ⊎ (entries_of party_of party log ≡ entries_of party_of party b)
      → entries_of party_of party log ≡ entries_of party_of party (longer a b)
  of_longer party log a b sa sb all = ⊎_elim
      (λ t. subst (λ c. entries_of party_of party log ≡ entries_of party_of party (if c then b else a)) (sym t.0)
      (⊎_elim (λ at_a. of_between party log a b sa sb t.1 at_a) (λ at_b. at_b) all))
      (λ t. subst (λ c. entries_of party_of party log ≡ entries_of party_of party (if c then b else a)) (sym t.0)
      (⊎_elim (λ at_a. at_a) (λ at_b. of_between party log b a sb sa (omega (arith, t.1)) at_b) all))
      (leb_tells (length a) (length b))

  -- a beginning that has all entries of each party is the whole log
  pub all_seen : (log seen : List E) → StartsWith log seen → HasJust party_of seen log → log ≡ seen
  all_seen log seen s all = s.1 ∙ ap (λ rest. seen ++ rest) (none_left s.0 s.1) ∙ append-nil seen
    where
      none_left : (rest : List E) → log ≡ seen ++ rest → rest ≡ []
      none_left [] e = refl
      none_left (x ∷ xs) e =
          let p = party_of x in
          let none = left_over (entries_of party_of p log) (entries_of party_of p seen) (entries_of party_of p (x ∷ xs)) (ap (entries_of party_of p) e ∙ entries-append p seen (x ∷ xs)) (all p) in
          absurd (there p refl none)
        where
          there : (p : ℕ) → party_of x ≡ p → entries_of party_of p (x ∷ xs) ≡ [] → ⊥
          there p is none =
              let first : x ∷ entries_of party_of p xs ≡ [] = sym (ap (λ b. cond b (x ∷ entries_of party_of p xs) (entries_of party_of p xs)) (eq-eqb (party_of x) p is)) ∙ none in
              let count : length (x ∷ entries_of party_of p xs) ≡ 0 = ap length first in
              omega (arith, count)

  -- a log that is as it was seen, or has one more entry
  pub goes_on : (parties : List ℕ) (seen log : List E) (entry : E) → Contains parties (party_of entry)
      → (more : Bool) → log ≡ (if more then seen ++ entry ∷ [] else seen)
      → GoesOn party_of parties seen log × (after seen log ≡ (if more then entry ∷ [] else []))
  goes_on parties seen log entry has true is =
      let one : after seen log ≡ entry ∷ [] = front_rest log seen (entry ∷ []) is in (
        (
          (entry ∷ [], is),
          All-same (λ entry. Contains parties (party_of entry)) (after seen log) (entry ∷ []) one
              (All-cons (λ entry. Contains parties (party_of entry)) entry [] has (All-nil (λ entry. Contains parties (party_of entry)))),
        ),
        one,
      )
  goes_on parties seen log entry has false is =
      let same : log ≡ seen ++ [] = is ∙ sym (append-nil seen) in
      let none : after seen log ≡ [] = front_rest log seen [] same in (
        (([], same), All-same (λ entry. Contains parties (party_of entry)) (after seen log) [] none (All-nil (λ entry. Contains parties (party_of entry)))),
        none,
      )
