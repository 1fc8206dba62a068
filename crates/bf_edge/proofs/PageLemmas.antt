-- Texts that are put one after the other.
use Rattle.std.proofs.Common.{◌≡◌, ℕ, ◌+◌, ◌<◌, ◌≤◌, List, [], ◌∷◌, ◌++◌, length, get_or, take, drop, flat_map, Option, refl, sym, ap, ap₂, subst, ◌∙◌, append_assoc, arith, take-add, drop-drop, length-append, length-drop}
use Rattle.std.proofs.lemmas.List.{append-nil, take-append-le, drop-append-le, take_more, take-append-drop, take_at, drop_at}
use Rattle.std.proofs.Math.Seq.{take-append-add}
use Rattle.std.proofs.lemmas.List.Concat.{flat_map-append}
use Rattle.bf_edge.specs.Sink.{appended, AppendsPrefix}
use Rattle.bf_edge.proofs.Appending.{appended-nil, appended-append}
use Rattle.bf_edge.specs.Page.{Puts}

-- the first j + k bytes of two texts, where j of the first are taken
take-add_append : (text more : List ℕ) (j k : ℕ) → j ≤ length text → take (j + k) (text ++ more) ≡ take j text ++ take k (drop j text ++ more)
take-add_append text more j k within =
    take-add j k (text ++ more) ∙ ap₂ (λ a b. a ++ take k b) (take-append-le j text more within) (drop-append-le j text more within)

drop-add_append : (text more : List ℕ) (j k : ℕ) → j ≤ length text → drop (j + k) (text ++ more) ≡ drop k (drop j text ++ more)
drop-add_append text more j k within = sym (drop-drop k j (text ++ more)) ∙ ap (drop k) (drop-append-le j text more within)

add_within : (text more : List ℕ) (j k : ℕ) → j ≤ length text → k ≤ length (drop j text ++ more) → j + k ≤ length (text ++ more)
add_within text more j k within and_then =
    omega (arith, length-append text more, length-append (drop j text) more, length-drop j text)

-- the sink once j bytes of a text are written and then k of what was left of it and more
written_twice : (old now new : Option (List ℕ)) (text more : List ℕ) (j k : ℕ) → j ≤ length text → now ≡ appended old (take j text)
    → new ≡ appended now (take k (drop j text ++ more)) → new ≡ appended old (take (j + k) (text ++ more))
written_twice old now new text more j k within first second =
    second ∙ (ap (λ w. appended w (take k (drop j text ++ more))) first
    ∙ (appended-append old (take j text) (take k (drop j text ++ more))
    ∙ ap (appended old) (sym (take-add_append text more j k within))))

-- nothing was put
pub puts_none : (written : Option (List ℕ)) (waits : List ℕ) → Puts written written waits waits []
puts_none written waits = record {
  count = 0;
  within = omega arith;
  written = sym (appended-nil written);
  waiting = sym (append-nil waits);
}

-- one text, and then a failure within another
pub breaks_after : {old now new : Option (List ℕ)} {waited between first : List ℕ} (second : List ℕ)
    → Puts old now waited between first → AppendsPrefix now new (between ++ second) → AppendsPrefix old new (waited ++ (first ++ second))
breaks_after {old} {now} {new} {waited} {between} {first} second p q =
    let text : List ℕ = waited ++ first in
    let same : text ++ second ≡ waited ++ (first ++ second) = append_assoc waited first second in
    let within : q.count ≤ length (drop p.count text ++ second) = subst (λ (l : List ℕ). q.count ≤ length (l ++ second)) p.waiting q.within in
    let more : new ≡ appended now (take q.count (drop p.count text ++ second)) = subst (λ (l : List ℕ). new ≡ appended now (take q.count (l ++ second))) p.waiting q.written in
    record {
      count = p.count + q.count;
      within = subst (λ (l : List ℕ). p.count + q.count ≤ length l) same (add_within text second p.count q.count p.within within);
      written = subst (λ (l : List ℕ). new ≡ appended old (take (p.count + q.count) l)) same
          (written_twice old now new text second p.count q.count p.within p.written more);
    }

-- one text and then another
pub puts_more : {old now new : Option (List ℕ)} {waited between waits first second : List ℕ}
    → Puts old now waited between first → Puts now new between waits second → Puts old new waited waits (first ++ second)
unfolding breaks_after
puts_more {old} {now} {new} {waited} {between} {waits} {first} {second} p q =
    let front = breaks_after second p (record { count = q.count; within = q.within; written = q.written }) in
    record {
      count = p.count + q.count;
      within = front.within;
      written = front.written;
      waiting = q.waiting ∙ (ap (λ l. drop q.count (l ++ second)) p.waiting
          ∙ (sym (drop-add_append (waited ++ first) second p.count q.count p.within) ∙ ap (drop (p.count + q.count)) (append_assoc waited first second)));
    }

-- a failure within a text, of which more was to come
pub breaks_early : {old new : Option (List ℕ)} (waited first second : List ℕ)
    → AppendsPrefix old new (waited ++ first) → AppendsPrefix old new (waited ++ (first ++ second))
breaks_early {old} {new} waited first second q =
    let text : List ℕ = waited ++ first in
    let same : text ++ second ≡ waited ++ (first ++ second) = append_assoc waited first second in
    record {
      count = q.count;
      within = subst (λ (l : List ℕ). q.count ≤ length l) same (omega (arith, q.within, length-append text second));
      written = subst (λ (l : List ℕ). new ≡ appended old (take q.count l)) same
          (q.written ∙ ap (appended old) (sym (take-append-le q.count text second q.within)));
    }

-- all is written, and then a text waits
pub puts_after_flush : {old new : Option (List ℕ)} {waited between waits bytes : List ℕ}
    → new ≡ appended old waited → between ≡ [] → waits ≡ between ++ bytes → Puts old new waited waits bytes
puts_after_flush {old} {new} {waited} {between} {waits} {bytes} all empty is = record {
  count = length waited;
  within = omega (arith, length-append waited bytes);
  written = all ∙ ap (appended old) (sym (take_at waited bytes (length waited) refl));
  waiting = is ∙ (ap (λ l. l ++ bytes) empty ∙ sym (drop_at waited bytes (length waited) refl));
}

-- all is written, and then a failure comes within a text
pub breaks_past_flush : {old now new : Option (List ℕ)} (waited bytes : List ℕ)
    → now ≡ appended old waited → AppendsPrefix now new bytes → AppendsPrefix old new (waited ++ bytes)
breaks_past_flush {old} {now} {new} waited bytes all q = record {
  count = length waited + q.count;
  within = omega (arith, q.within, length-append waited bytes);
  written = q.written ∙ (ap (λ w. appended w (take q.count bytes)) all ∙ (appended-append old waited (take q.count bytes)
      ∙ ap (appended old) (sym (take-append-add waited bytes q.count))));
}

-- one text, and then all that waits is written
pub all_written : {old now new : Option (List ℕ)} {waited waits bytes : List ℕ}
    → waited ≡ [] → Puts old now waited waits bytes → new ≡ appended now waits → new ≡ appended old bytes
all_written {old} {now} {new} {waited} {waits} {bytes} empty p more =
    more ∙ (ap (appended now) p.waiting ∙ (ap (λ w. appended w (drop p.count (waited ++ bytes))) p.written
    ∙ (appended-append old (take p.count (waited ++ bytes)) (drop p.count (waited ++ bytes))
    ∙ ap (appended old) (take-append-drop p.count (waited ++ bytes) ∙ ap (λ l. l ++ bytes) empty))))

-- one more text of many
pub flat_map-take_more : {X : Type 0} (f : X → List ℕ) (xs : List X) (i : ℕ) (d x : X) → i < length xs → x ≡ get_or xs i d
    → flat_map f (take (i + 1) xs) ≡ flat_map f (take i xs) ++ f x
flat_map-take_more f xs i d x below is =
    ap (flat_map f) (take_more xs i d below ∙ ap (λ y. take i xs ++ y ∷ []) (sym is))
    ∙ (flat_map-append f (take i xs) (x ∷ []) ∙ ap (λ l. flat_map f (take i xs) ++ l) (append-nil (f x)))
