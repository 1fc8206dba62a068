-- Steps of merging.
use Rattle.std.proofs.Common.{◌≡◌, ℕ, suc, ◌+◌, ◌<◌, Bool, true, false, cond, List, [], ◌∷◌, ◌++◌, map, length, take, drop, get_or, refl, ap, sym, ◌∙◌, arith, append_assoc, add-one, All, length-take, get_or-take}
use Rattle.std.specs.Prelude.{not}
use Rattle.std.specs.List.{position_or_len}
use Rattle.std.proofs.Math.Seq.{drop-cons}
use Rattle.std.proofs.lemmas.List.Elements.{All-head, All-tail}
use Rattle.std.proofs.lemmas.List.Sums.{position_or_len_is}
use Rattle.std.proofs.Math.Numerals.{one-add}
use Rattle.std.proofs.lemmas.List.{map-append}
use Rattle.bf_parts.specs.Merges.{placed, merged, passed}

-- an item stands after those that don't come after it
pub placed_at : {I : Type 0} (first : I → I → Bool) (x : I) (rest : List I → List I) (ys : List I)
    → placed first x rest ys ≡ take (passed first x ys) ys ++ x ∷ rest (drop (passed first x ys) ys)
placed_at first x rest [] = refl
placed_at first x rest (y ∷ ys) = at (first x y) (placed_at first x rest ys)
  where
    at : (b : Bool) → placed first x rest ys ≡ take (passed first x ys) ys ++ x ∷ rest (drop (passed first x ys) ys)
        → cond b (x ∷ rest (y ∷ ys)) (y ∷ placed first x rest ys)
        ≡ take (cond (not b) (1 + passed first x ys) 0) (y ∷ ys) ++ x ∷ rest (drop (cond (not b) (1 + passed first x ys) 0) (y ∷ ys))
    at true later = refl
    at false later = rw one-add (ap (λ zs. y ∷ zs) later)

-- one more item of the first list
pub merge_more : {I : Type 0} (first : I → I → Bool) (f : I → I) (own : List I) (i : ℕ) (item : I) (rest before after done total : List I) → i < length own → item ≡ get_or own i item
    → before ≡ take (passed first item rest) rest → after ≡ drop (passed first item rest) rest
    → done ++ map f (merged first (drop i own) rest) ≡ total
    → ((done ++ map f before) ++ f item ∷ []) ++ map f (merged first (drop (i + 1) own) after) ≡ total
merge_more {I = I} first f own i item rest before after done total within is is_before is_after so_far =
    let later : List I = drop (i + 1) own in
    let n : ℕ = passed first item rest in
    let next : drop i own ≡ item ∷ drop (i + 1) own =
    drop-cons own i item within ∙ ap (λ y. y ∷ drop (suc i) own) (sym is) ∙ ap (λ k. item ∷ drop k own) (sym (add-one i)) in
    append_assoc (done ++ map f before) (f item ∷ []) (map f (merged first later after))
    ∙ append_assoc done (map f before) (f item ∷ map f (merged first later after))
    ∙ ap (λ b. done ++ (map f b ++ f item ∷ map f (merged first later after))) is_before
    ∙ ap (λ a. done ++ (map f (take n rest) ++ f item ∷ map f (merged first later a))) is_after
    ∙ ap (λ zs. done ++ zs) (sym (map-append f (take n rest) (item ∷ merged first later (drop n rest))))
    ∙ ap (λ zs. done ++ map f zs) (sym (placed_at first item (merged first later) rest))
    ∙ ap (λ zs. done ++ map f (merged first zs rest)) (sym next)
    ∙ so_far

-- the same, as it is done
pub merge_done : {I : Type 0} (first : I → I → Bool) (f : I → I) (own : List I) (i : ℕ) (item copy : I) (rest before after done middle all total : List I) → i < length own → item ≡ get_or own i item
    → before ≡ take (passed first item rest) rest → after ≡ drop (passed first item rest) rest
    → middle ≡ done ++ map f before → copy ≡ f item → all ≡ middle ++ copy ∷ []
    → done ++ map f (merged first (drop i own) rest) ≡ total
    → all ++ map f (merged first (drop (i + 1) own) after) ≡ total
merge_done first f own i item copy rest before after done middle all total within is is_before is_after is_middle is_copy is_all so_far =
    ap (λ zs. zs ++ map f (merged first (drop (i + 1) own) after)) (is_all ∙ ap (λ m. m ++ copy ∷ []) is_middle ∙ ap (λ c. (done ++ map f before) ++ c ∷ []) is_copy)
    ∙ merge_more first f own i item rest before after done total within is is_before is_after so_far

-- where no item fails the test
pub passed_end : {I : Type 0} (p : I → Bool) (ys : List I) → All (λ y. p y ≡ false) ys → length ys ≡ position_or_len p ys
passed_end p [] all = refl
passed_end p (y ∷ ys) all = rw (All-head (λ y. p y ≡ false) y ys all) (ap suc (passed_end p ys (All-tail (λ y. p y ≡ false) y ys all)) ∙ sym (one-add (position_or_len p ys)))

-- where the item at a place is the first that passes
pub passed_here : {I : Type 0} (p : I → Bool) (ys : List I) (i : ℕ) (d : I) → i < length ys → All (λ y. p y ≡ false) (take i ys) → p (get_or ys i d) ≡ true → i ≡ position_or_len p ys
passed_here p ys i d within fails passes =
    sym (position_or_len_is p ys i d (omega arith)
    (λ k below. let same : get_or (take i ys) k d ≡ get_or ys k d = get_or-take i ys k d below in
    ap p (sym same) ∙ fails k d (rw (length-take i ys) (omega arith))) (λ _. passes))

-- with none, a list is as it was
pub merged_none : {I : Type 0} (first : I → I → Bool) (own : List I) → merged first own [] ≡ own
merged_none first [] = refl
merged_none first (x ∷ xs) = ap (λ rest. x ∷ rest) (merged_none first xs)

-- some of others went to the end of a list, none of which comes after an item
pub record HasPassed {I : Type 0} (first : I → I → Bool) (x : I) (all others more rest : List I) : Type 0 where
  pub so_far : more ++ take (passed first x rest) rest ≡ all ++ take (passed first x others) others
  pub left : drop (passed first x rest) rest ≡ drop (passed first x others) others

passed_next : {I : Type 0} (first : I → I → Bool) (x y : I) (ys : List I) → first x y ≡ false → passed first x (y ∷ ys) ≡ suc (passed first x ys)
passed_next first x y ys comes = rw comes (one-add (passed first x ys))

-- one more goes
pub pass_one : {I : Type 0} (first : I → I → Bool) (x y : I) (all others more rest more_now rest_now : List I) → first x y ≡ false → rest ≡ y ∷ rest_now → more_now ≡ more ++ y ∷ []
    → HasPassed first x all others more rest → HasPassed first x all others more_now rest_now
pass_one {I = I} first x y all others more rest more_now rest_now comes is_rest is_more has =
    let next = passed_next first x y rest_now comes in
    record {
      so_far = ap (λ (m : List I). m ++ take (passed first x rest_now) rest_now) is_more
          ∙ append_assoc more (y ∷ []) (take (passed first x rest_now) rest_now)
          ∙ ap (λ (n : ℕ). more ++ take n (y ∷ rest_now)) (sym next)
          ∙ ap (λ (r : List I). more ++ take (passed first x r) r) (sym is_rest)
          ∙ has.so_far;
      left = ap (λ (n : ℕ). drop n (y ∷ rest_now)) (sym next) ∙ ap (λ (r : List I). drop (passed first x r) r) (sym is_rest) ∙ has.left;
    }

-- one more of a list is put behind those of others that don't come after it
pub merge_step : {I : Type 0} (first : I → I → Bool) (x : I) (own own_now others others_now all passing all_now total : List I) → own ≡ x ∷ own_now
    → passing ≡ all ++ take (passed first x others) others → others_now ≡ drop (passed first x others) others → all_now ≡ passing ++ x ∷ []
    → all ++ merged first own others ≡ total → all_now ++ merged first own_now others_now ≡ total
merge_step {I = I} first x own own_now others others_now all passing all_now total is_own is_passing is_others is_all so_far =
    let gone : List I = take (passed first x others) others in
    ap (λ (zs : List I). zs ++ merged first own_now others_now) (is_all ∙ ap (λ (ps : List I). ps ++ x ∷ []) is_passing)
    ∙ append_assoc (all ++ gone) (x ∷ []) (merged first own_now others_now)
    ∙ append_assoc all gone (x ∷ merged first own_now others_now)
    ∙ ap (λ (ys : List I). all ++ (gone ++ x ∷ merged first own_now ys)) is_others
    ∙ ap (λ (zs : List I). all ++ zs) (sym (placed_at first x (merged first own_now) others))
    ∙ ap (λ (xs : List I). all ++ merged first xs others) (sym is_own)
    ∙ so_far
