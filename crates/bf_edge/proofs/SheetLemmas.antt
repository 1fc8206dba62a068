-- Texts that are printed one after the other.
use Rattle.std.proofs.Common.{◌≡◌, ℕ, ◌+◌, ◌<◌, ◌≤◌, Bool, true, false, List, [], ◌++◌, length, get_or, take, flat_map, Option, refl, sym, ap, subst, ◌∙◌, arith}
use Rattle.std.proofs.lemmas.List.{append-nil, take_all}
use Rattle.std.specs.Prelude.{Result, Ok, Err, OnOk, OnErr}
use Rattle.bf_edge.specs.Faults.{Rose}
use Rattle.bf_edge.specs.Sink.{appended, AppendsPrefix}
use Rattle.bf_edge.specs.Sheet.{SheetValue, blank_sheet, PrintsBy, Prints}
use Rattle.bf_edge.proofs.Appending.{appended-nil}
use Rattle.bf_edge.proofs.PageLemmas.{puts_none, puts_more, breaks_after, breaks_early, all_written, flat_map-take_more}

none_by : (b : Bool) (written : Option (List ℕ)) (n : ℕ) (waits : List ℕ) → PrintsBy b b written written n n waits waits []
none_by false written n waits = (puts_none written waits, refl)
none_by true written n waits = (refl, refl)

-- nothing is printed
pub prints_none : {S : Type 0} (written : S → Option (List ℕ)) (faults : S → ℕ) (sink : S) (sheet : SheetValue)
    → Prints written faults sink sink sheet sheet []
prints_none written faults sink sheet = record { printed = none_by sheet.failed (written sink) (faults sink) sheet.waiting }

then_by : (a b c : Bool) (old now new : Option (List ℕ)) (n m k : ℕ) (waited between waits first second : List ℕ)
    → PrintsBy a b old now n m waited between first → PrintsBy b c now new m k between waits second
    → PrintsBy a c old new n k waited waits (first ++ second)
then_by false false false _ _ _ _ _ _ _ _ _ _ _ p q = (puts_more p.0 q.0, q.1 ∙ p.1)
then_by false false true _ _ _ _ _ k _ _ _ _ second p q =
    (breaks_after second p.0 q.0, subst (λ n. Rose n k) p.1 q.1, subst (λ n. n ≤ k) p.1 q.2)
then_by false true false _ _ _ _ _ _ _ _ _ _ _ p q = absurd q
then_by false true true old _ _ n _ _ waited _ _ first second p q =
    (subst (λ w. AppendsPrefix old w (waited ++ (first ++ second))) (sym q.0) (breaks_early waited first second p.0), subst (Rose n) (sym q.1) p.1, subst (λ k. n ≤ k) (sym q.1) p.2)
then_by true false c _ _ _ _ _ _ _ _ _ _ _ p q = absurd p
then_by true true false _ _ _ _ _ _ _ _ _ _ _ p q = absurd q
then_by true true true _ _ _ _ _ _ _ _ _ _ _ p q = (q.0 ∙ p.0, q.1 ∙ p.1)

-- one text is printed and then another
pub prints_then : {S : Type 0} {written : S → Option (List ℕ)} {faults : S → ℕ} {old now new : S} {before between after : SheetValue} {first second : List ℕ}
    → Prints written faults old now before between first → Prints written faults now new between after second
    → Prints written faults old new before after (first ++ second)
prints_then {before = before} {between = between} {after = after} p q =
    record { printed = then_by before.failed between.failed after.failed _ _ _ _ _ _ _ _ _ _ _ p.printed q.printed }

-- one more text of many
pub prints_item : {S X : Type 0} {written : S → Option (List ℕ)} {faults : S → ℕ} (f : X → List ℕ) (xs : List X) (i : ℕ) (d x : X)
    {old now new : S} {before between after : SheetValue} → i < length xs → x ≡ get_or xs i d
    → Prints written faults old now before between (flat_map f (take i xs)) → Prints written faults now new between after (f x)
    → Prints written faults old new before after (flat_map f (take (i + 1) xs))
prints_item {written = written} {faults = faults} f xs i d x {old = old} {new = new} {before = before} {after = after} below is p q =
    subst (Prints written faults old new before after) (sym (flat_map-take_more f xs i d x below is)) (prints_then p q)

-- all of many texts
pub prints_items : {S X : Type 0} {written : S → Option (List ℕ)} {faults : S → ℕ} (f : X → List ℕ) (xs : List X) (i : ℕ)
    {old new : S} {before after : SheetValue} → length xs ≤ i
    → Prints written faults old new before after (flat_map f (take i xs)) → Prints written faults old new before after (flat_map f xs)
prints_items {written = written} {faults = faults} f xs i {old = old} {new = new} {before = before} {after = after} all p =
    subst (λ l. Prints written faults old new before after (flat_map f l)) (take_all i xs all) p

-- what is known of a text that was to be written, by whether that is said to have gone well
pub record Writing {T E : Type 0} (told : Result T E) (old new : Option (List ℕ)) (faults faults_then : ℕ) (text : List ℕ) : Type 0 where
  pub all : OnOk told (new ≡ appended old text)
  pub steady : OnOk told (faults_then ≡ faults)
  pub rose : OnErr told (Rose faults faults_then)
  pub prefix : OnErr told (AppendsPrefix old new text)
  pub never_falls : faults ≤ faults_then

whole_by : {T E : Type 0} (told : Result T E) (failed : Bool) (old new : Option (List ℕ)) (n m : ℕ) (waits text : List ℕ)
    → PrintsBy false failed old new n m [] waits (text ++ [])
    → OnOk told (record { waiting = waits; failed = failed } ≡ blank_sheet) → OnErr told (failed ≡ true) → Writing told old new n m text
whole_by (Ok x) true old new n m waits text p all failed =
    let e : true ≡ false = ap (λ (s : SheetValue). s.failed) all in absurd cc
whole_by (Ok x) false old new n m waits text p all failed =
    let empty : waits ≡ [] = ap (λ (s : SheetValue). s.waiting) all in
    let more : new ≡ appended new waits = sym (ap (appended new) empty ∙ appended-nil new) in
    record {
      all = all_written refl p.0 more ∙ ap (appended old) (append-nil text);
      steady = p.1;
      rose = tt;
      prefix = tt;
      never_falls = omega (arith, p.1);
    }
whole_by (Err e) false old new n m waits text p all failed =
    let e : false ≡ true = failed in absurd cc
whole_by (Err e) true old new n m waits text p all failed = record {
  all = tt;
  steady = tt;
  rose = p.1;
  prefix = subst (AppendsPrefix old new) (append-nil text) p.0;
  never_falls = p.2;
}

-- a text is printed on a blank sheet, and then what waits is written
pub prints_whole : {S T E : Type 0} {written : S → Option (List ℕ)} {faults : S → ℕ} {old now new : S} {before between after : SheetValue} {text : List ℕ} (told : Result T E)
    → before ≡ blank_sheet → Prints written faults old now before between text → Prints written faults now new between after []
    → OnOk told (after ≡ blank_sheet) → OnErr told (after.failed ≡ true)
    → Writing told (written old) (written new) (faults old) (faults new) text
prints_whole {written = written} {faults = faults} {old = old} {new = new} {after = after} {text = text} told blank p q all failed =
    let both : Prints written faults old new blank_sheet after (text ++ []) =
    subst (λ s. Prints written faults old new s after (text ++ [])) blank (prints_then p q) in
    whole_by told after.failed _ _ _ _ after.waiting text both.printed all failed
