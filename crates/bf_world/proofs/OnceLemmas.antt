-- Lists in which no number stands twice, and what is told of each of their numbers, in any order.
use Rattle.std.proofs.Common.{◌≡◌, ℕ, Bool, true, false, cond, ◌||◌, not, List, [], ◌∷◌, ◌++◌, append_assoc, map, length, arith, refl, sym, subst, ◌∙◌, ap}
use Rattle.std.specs.Prelude.{◌==◌, IsPermutation, Option, Some}
use Rattle.std.specs.List.{flat_map, zip}
use Rattle.std.proofs.lemmas.Bool.{eqb-true, eq-eqb, or_right, or_left}
use Rattle.std.proofs.lemmas.List.Sorted.{IsPermutation-refl, IsPermutation-trans, IsPermutation-append_left, IsPermutation-append_right, IsPermutation-append_comm}
use Rattle.std.proofs.Math.Bool.{or-false, or_assoc}
use Rattle.bf_buddy.proofs.LawLemmas.{without_stranger}
use Rattle.bf_buddy.specs.Members.{is_member, without}
use Rattle.bf_program.specs.Lockstep.{local_of}
use Rattle.bf_world.proofs.MemberLemmas.{Apart}

-- one number more
pub member_more : (xs : List ℕ) (x y : ℕ) → is_member (xs ++ x ∷ []) y ≡ (is_member xs y || (x == y))
member_more [] x y = or-false (x == y)
member_more (z ∷ zs) x y = ap (λ b. (z == y) || b) (member_more zs x y) ∙ sym (or_assoc (z == y) (is_member zs y) (x == y))

pub apart_more : (xs : List ℕ) (x : ℕ) → Apart xs → is_member xs x ≡ false → Apart (xs ++ x ∷ [])
apart_more [] x apart out = (refl, tt)
apart_more (z ∷ zs) x apart out =
    (member_more zs x z ∙ by_first (is_member zs z) (x == z) apart.0 (other (z == x) refl (first_false (z == x) _ out)), apart_more zs x apart.1 (second_false (z == x) _ out))
  where
    first_false : (a b : Bool) → (a || b) ≡ false → a ≡ false
    first_false true b none = absurd (cc)
    first_false false b none = refl

    second_false : (a b : Bool) → (a || b) ≡ false → b ≡ false
    second_false true b none = absurd (cc)
    second_false false b none = none

    other : (b : Bool) → (z == x) ≡ b → b ≡ false → (x == z) ≡ false
    other true same none = absurd (cc)
    other false differs _ = turned (x == z) refl
      where
        turned : (c : Bool) → (x == z) ≡ c → c ≡ false
        turned true same = absurd (let e : true ≡ false = sym (eq-eqb z x (sym (eqb-true x z same))) ∙ differs in cc)
        turned false _ = refl

    by_first : (a b : Bool) → a ≡ false → b ≡ false → (a || b) ≡ false
    by_first a b first second = rw (first, second) refl

-- a number taken out

pub member_without : (xs : List ℕ) (x y : ℕ) → is_member (without xs x) y ≡ cond (x == y) false (is_member xs y)
member_without [] x y = by_test (x == y)
  where
    by_test : (b : Bool) → false ≡ cond b false false
    by_test true = refl
    by_test false = refl
member_without (z ∷ zs) x y = by_head (member_without zs x y) (z == x) refl (x == y) refl (z == y) refl
  where
    by_head : is_member (without zs x) y ≡ cond (x == y) false (is_member zs y) → (b : Bool) → (z == x) ≡ b → (c : Bool) → (x == y) ≡ c → (d : Bool) → (z == y) ≡ d
        → is_member (cond (not b) (z ∷ without zs x) (without zs x)) y ≡ cond c false (d || is_member zs y)
    by_head rest true same true also d is = rest ∙ rw also refl
    by_head rest true same false also true is = absurd (let e : true ≡ false = sym (eq-eqb x y (sym (eqb-true z x same) ∙ eqb-true z y is)) ∙ also in cc)
    by_head rest true same false also false is = rest ∙ rw also refl
    by_head rest false differs true also true is = absurd (let e : true ≡ false = sym (eq-eqb z x (eqb-true z y is ∙ sym (eqb-true x y also))) ∙ differs in cc)
    by_head rest false differs true also false is = rw is (rest ∙ rw also refl)
    by_head rest false differs false also true is = rw is refl
    by_head rest false differs false also false is = rw is (rest ∙ rw also refl)

pub apart_without : (xs : List ℕ) (x : ℕ) → Apart xs → Apart (without xs x)
apart_without [] x apart = tt
apart_without (z ∷ zs) x apart = by_head (z == x) (apart_without zs x apart.1)
  where
    gone : (b c : Bool) → c ≡ false → cond b false c ≡ false
    gone true c none = refl
    gone false c none = none

    by_head : (b : Bool) → Apart (without zs x) → Apart (cond (not b) (z ∷ without zs x) (without zs x))
    by_head true rest = rest
    by_head false rest = (member_without zs x z ∙ gone (x == z) (is_member zs z) apart.0, rest)

pub none_listed : (xs : List ℕ) → ((y : ℕ) → is_member xs y ≡ false) → xs ≡ []
none_listed [] none = refl
none_listed (z ∷ zs) none = absurd (let e : true ≡ false = sym (or_left (z == z) (is_member zs z) (eq-eqb z z refl)) ∙ none z in cc)

-- what each number gives, in another order

to_front : {X : Type 0} (a b c : List X) → IsPermutation (a ++ (b ++ c)) (b ++ (a ++ c))
to_front {X = X} a b c =
    let P : List X → Type 0 = λ xs. IsPermutation xs (b ++ (a ++ c)) in
    let Q : List X → Type 0 = λ ys. IsPermutation ((a ++ b) ++ c) ys in
    subst P (append_assoc a b c) (subst Q (append_assoc b a c) (IsPermutation-append_left c (a ++ b) (b ++ a) (IsPermutation-append_comm a b)))

pulled : {X : Type 0} (f : ℕ → List X) (ys : List ℕ) (x : ℕ) → Apart ys → is_member ys x ≡ true
    → IsPermutation (f x ++ flat_map f (without ys x)) (flat_map f ys)
pulled f [] x apart member = absurd (cc)
pulled {X = X} f (y ∷ ys) x apart member = by_head (y == x) refl member (λ later. pulled f ys x apart.1 later)
  where
    by_head : (b : Bool) → (y == x) ≡ b → (b || is_member ys x) ≡ true → (is_member ys x ≡ true → IsPermutation (f x ++ flat_map f (without ys x)) (flat_map f ys))
        → IsPermutation (f x ++ flat_map f (cond (not b) (y ∷ without ys x) (without ys x))) (f y ++ flat_map f ys)
    by_head true same _ rest =
        let is : y ≡ x = eqb-true y x same in
        let P : List X → Type 0 = λ xs. IsPermutation xs (f y ++ flat_map f ys) in
        subst P (ap (λ r. f r ++ flat_map f ys) is ∙ ap (λ zs. f x ++ flat_map f zs) (sym (without_stranger ys x (ap (is_member ys) (sym is) ∙ apart.0)))) (IsPermutation-refl (f y ++ flat_map f ys))
    by_head false other later rest =
        IsPermutation-trans (f x ++ (f y ++ flat_map f (without ys x))) (f y ++ (f x ++ flat_map f (without ys x))) (f y ++ flat_map f ys)
        (to_front (f x) (f y) (flat_map f (without ys x)))
        (IsPermutation-append_right (f y) (f x ++ flat_map f (without ys x)) (flat_map f ys) (rest later))

-- two lists of the same numbers, each once, give the same in some order
pub same_gifts : {X : Type 0} (f : ℕ → List X) (xs ys : List ℕ) → Apart xs → Apart ys → ((y : ℕ) → is_member xs y ≡ is_member ys y)
    → IsPermutation (flat_map f xs) (flat_map f ys)
same_gifts {X = X} f [] ys apart others same =
    let P : List ℕ → Type 0 = λ zs. IsPermutation [] (flat_map f zs) in
    subst P (sym (none_listed ys (λ y. sym (same y)))) (IsPermutation-refl {X = X} [])
same_gifts f (x ∷ xs) ys apart others same =
    IsPermutation-trans (f x ++ flat_map f xs) (f x ++ flat_map f (without ys x)) (flat_map f ys)
    (IsPermutation-append_right (f x) (flat_map f xs) (flat_map f (without ys x)) (same_gifts f xs (without ys x) apart.1 (apart_without ys x others) rest))
    (pulled f ys x others (sym (same x) ∙ or_left (x == x) (is_member xs x) (eq-eqb x x refl)))
  where
    by_test : (y : ℕ) (b : Bool) → (x == y) ≡ b → (b || is_member xs y) ≡ is_member ys y → is_member xs y ≡ cond b false (is_member ys y)
    by_test y true is all = ap (is_member xs) (sym (eqb-true x y is)) ∙ apart.0
    by_test y false differs all = all

    rest : (y : ℕ) → is_member xs y ≡ is_member (without ys x) y
    rest y = by_test y (x == y) refl (same y) ∙ sym (member_without ys x y)

-- what each member gives, told by looking up its local

same_on : {X : Type 0} (f g : ℕ → List X) (xs : List ℕ) → ((y : ℕ) → is_member xs y ≡ true → f y ≡ g y) → flat_map f xs ≡ flat_map g xs
same_on f g [] same = refl
same_on f g (x ∷ xs) same =
    rw (same x (or_left (x == x) (is_member xs x) (eq-eqb x x refl)), same_on f g xs (λ y later. same y (or_right (x == y) (is_member xs y) later))) refl

pub gifts_of_seats : {L T : Type 0} (g : ℕ × L → T) (h : ℕ → Option L → List T) → ((rank : ℕ) (local : L) → h rank (Some local) ≡ g (rank, local) ∷ [])
    → (members : List ℕ) (locals : List L) → Apart members → length locals ≡ length members
    → flat_map (λ rank. h rank (local_of members locals rank)) members ≡ map g (zip members locals)
gifts_of_seats g h gives [] locals apart each = refl
gifts_of_seats g h gives (x ∷ xs) [] apart each = absurd (omega arith)
gifts_of_seats {L = L} {T = T} g h gives (x ∷ xs) (l ∷ ls) apart each =
    rw (eq-eqb x x refl, gives x l)
    (ap (λ ts. g (x, l) ∷ ts) (same_on _ (λ rank. h rank (local_of xs ls rank)) xs
    (λ y member. ap (h y) (looks_on y (x == y) refl member)) ∙ gifts_of_seats g h gives xs ls apart.1 (omega arith)))
  where
    looks_on : (y : ℕ) (b : Bool) → (x == y) ≡ b → is_member xs y ≡ true → cond b (Some l) (local_of xs ls y) ≡ local_of xs ls y
    looks_on y true same member = absurd (let e : false ≡ true = sym apart.0 ∙ ap (is_member xs) (eqb-true x y same) ∙ member in cc)
    looks_on y false other member = refl
