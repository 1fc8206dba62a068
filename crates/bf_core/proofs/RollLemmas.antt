-- Counts of a roll.
use Rattle.std.proofs.Common.{◌≡◌, ℕ, zero, suc, ◌+◌, ◌≤◌, ◌<◌, Bool, true, false, cond, ◌||◌, List, [], ◌∷◌, ◌++◌, length, get_or, drop, map, arith, refl, ap, sym, ◌∙◌, set, take}
use Rattle.std.specs.Prelude.{nat_lt, count_by, ◌==◌, Option}
use Rattle.std.specs.List.{list_any, range_with_len}
use Rattle.std.specs.Map.{lookup}
use Rattle.std.proofs.lemmas.Bool.Decides.{nat_tests}
use Rattle.std.proofs.lemmas.List.{length-map, get_or_default}
use Rattle.std.proofs.lemmas.List.Edits.{map_over_more}
use Rattle.std.proofs.lemmas.List.Sums.{sum_by-cons}
use Rattle.std.proofs.lemmas.List.FromFn.{map-range_with_len_more, length-range_with_len}
use Rattle.bf_core.specs.declared.standing.Stage.{Stage}
use Rattle.bf_core.specs.declared.standing.Stage.TheVariants.{Running, Arrived, Leaving, Ended, Dead, Gone}
use Rattle.bf_core.specs.declared.standing.Standing.{Standing}
use Rattle.bf_core.specs.Stages.{is_awaited, is_short, is_dead, goes_on, after_decision}
use Rattle.bf_core.specs.Rolls.{dissolved_in, opening_in, IsCounted}

count_cons : {X : Type 0} (p : X → Bool) (x : X) (xs : List X) → count_by p (x ∷ xs) ≡ cond (p x) 1 0 + count_by p xs
count_cons p x xs = sum_by-cons (λ y. cond (p y) 1 0) x xs

-- some element passes exactly where the count is above 0
some_counted : {X : Type 0} (p : X → Bool) (xs : List X) → nat_lt 0 (count_by p xs) ≡ list_any p xs
some_counted p [] = refl
some_counted p (x ∷ xs) = ap (nat_lt 0) (count_cons p x xs) ∙ with_first (p x) (count_by p xs) (list_any p xs) (some_counted p xs)
  where
    with_first : (b : Bool) (n : ℕ) (any : Bool) → nat_lt 0 n ≡ any → nat_lt 0 (cond b 1 0 + n) ≡ (b || any)
    with_first true n any _ = grind (arith, nat_tests)
    with_first false n any same = grind (arith, same)

pub any_counted : (p : Standing → Bool) (xs ys : List Standing) (n : ℕ) → n ≡ count_by p xs → xs ≡ ys → nat_lt 0 n ≡ list_any p ys
any_counted p xs ys n count same = ap (nat_lt 0) count ∙ some_counted p xs ∙ ap (list_any p) same

-- a count after a map
count_map : (p q : Standing → Bool) (f : Standing → Standing) → ((s : Standing) → p (f s) ≡ q s) → (xs : List Standing) → count_by p (map f xs) ≡ count_by q xs
count_map p q f agree [] = refl
count_map p q f agree (x ∷ xs) =
    count_cons p (f x) (map f xs)
    ∙ ap (λ b. cond b 1 0 + count_by p (map f xs)) (agree x)
    ∙ ap (λ n. cond (q x) 1 0 + n) (count_map p q f agree xs)
    ∙ sym (count_cons q x xs)

none_counted : (xs : List Standing) → count_by (λ s. false) xs ≡ 0
none_counted [] = refl
none_counted (x ∷ xs) = count_cons (λ s. false) x xs ∙ ap (λ n. 0 + n) (none_counted xs)

awaited_after : (stage : Stage) → is_awaited (after_decision stage) ≡ goes_on stage
awaited_after Running = refl
awaited_after (Arrived how filled) = refl
awaited_after Leaving = refl
awaited_after Ended = refl
awaited_after Dead = refl
awaited_after Gone = refl

going_after : (stage : Stage) → goes_on (after_decision stage) ≡ goes_on stage
going_after Running = refl
going_after (Arrived how filled) = refl
going_after Leaving = refl
going_after Ended = refl
going_after Dead = refl
going_after Gone = refl

dead_after : (stage : Stage) → is_dead (after_decision stage) ≡ false
dead_after Running = refl
dead_after (Arrived how filled) = refl
dead_after Leaving = refl
dead_after Ended = refl
dead_after Dead = refl
dead_after Gone = refl

pub short_after : (stage : Stage) → is_short (after_decision stage) ≡ false
short_after Running = refl
short_after (Arrived how filled) = refl
short_after Leaving = refl
short_after Ended = refl
short_after Dead = refl
short_after Gone = refl

-- the counts once the epoch is decided
pub dissolved_counted : (standings : List Standing) (awaited dead short going : ℕ) → IsCounted standings awaited dead short going
    → (next : List Standing) → next ≡ dissolved_in standings → IsCounted next going 0 0 going
dissolved_counted standings awaited dead short going counted next same =
    let each = λ (s : Standing). record s { stage = after_decision s.stage } in
    record {
      awaited_count = counted.going_count ∙ sym (ap (count_by (λ s. is_awaited s.stage)) same
          ∙ count_map (λ s. is_awaited s.stage) (λ s. goes_on s.stage) each (λ s. awaited_after s.stage) standings);
      dead_count = sym (ap (count_by (λ s. is_dead s.stage)) same
          ∙ count_map (λ s. is_dead s.stage) (λ s. false) each (λ s. dead_after s.stage) standings ∙ none_counted standings);
      short_count = sym (ap (count_by (λ s. is_short s.stage)) same
          ∙ count_map (λ s. is_short s.stage) (λ s. false) each (λ s. short_after s.stage) standings ∙ none_counted standings);
      going_count = counted.going_count ∙ sym (ap (count_by (λ s. goes_on s.stage)) same
          ∙ count_map (λ s. goes_on s.stage) (λ s. goes_on s.stage) each (λ s. going_after s.stage) standings);
      few = let long : length next ≡ length standings = ap length same ∙ length-map standings each in
          let few : length standings ≤ 32 = counted.few in omega arith;
    }

-- a count where all pass or none does
all_alike : (p : Standing → Bool) (f : ℕ → Standing) (b : Bool) → ((k : ℕ) → p (f k) ≡ b) → (a n : ℕ)
    → count_by p (map f (range_with_len a n)) ≡ cond b n 0
all_alike p f b alike a zero = no_more b
  where
    no_more : (b : Bool) → zero ≡ cond b 0 0
    no_more true = refl
    no_more false = refl
all_alike p f b alike a (suc n) =
    count_cons p (f a) (map f (range_with_len (a + 1) n))
    ∙ ap (λ t. cond t 1 0 + count_by p (map f (range_with_len (a + 1) n))) (alike a)
    ∙ ap (λ m. cond b 1 0 + m) (all_alike p f b alike (a + 1) n)
    ∙ one_more b n
  where
    one_more : (b : Bool) (n : ℕ) → cond b 1 0 + cond b n 0 ≡ cond b (suc n) 0
    one_more true n = omega arith
    one_more false n = refl

-- the counts at the opening
pub opening_counted : (ranks : ℕ) (deaths : List (ℕ × ℕ)) → ranks ≤ 32 → (standings : List Standing) → standings ≡ opening_in ranks deaths
    → IsCounted standings ranks 0 0 ranks
opening_counted ranks deaths few standings same =
    let first : ℕ → Standing = λ rank. record { stage = Running; death = lookup (λ other. other == rank) deaths; events = 0 } in
    record {
      awaited_count = sym (ap (count_by (λ s. is_awaited s.stage)) same ∙ all_alike (λ s. is_awaited s.stage) first true (λ k. refl) 0 ranks);
      dead_count = sym (ap (count_by (λ s. is_dead s.stage)) same ∙ all_alike (λ s. is_dead s.stage) first false (λ k. refl) 0 ranks);
      short_count = sym (ap (count_by (λ s. is_short s.stage)) same ∙ all_alike (λ s. is_short s.stage) first false (λ k. refl) 0 ranks);
      going_count = sym (ap (count_by (λ s. goes_on s.stage)) same ∙ all_alike (λ s. goes_on s.stage) first true (λ k. refl) 0 ranks);
      few = let long : length standings ≡ ranks = ap length same ∙ length-map (range_with_len 0 ranks) first ∙ length-range_with_len 0 ranks in omega arith;
    }

-- one rank more
pub opening_more : (n : ℕ) (deaths : List (ℕ × ℕ)) → opening_in (n + 1) deaths
    ≡ opening_in n deaths ++ (record { stage = Running; death = lookup (λ other. other == n) deaths; events = 0 }) ∷ []
opening_more n deaths =
    map-range_with_len_more (λ rank. record { stage = Running; death = lookup (λ other. other == rank) deaths; events = 0 }) 0 n n (omega arith)

pub opening_step : (n : ℕ) (deaths : List (ℕ × ℕ)) (standings next : List Standing) (death : Option ℕ) → standings ≡ opening_in n deaths
    → death ≡ lookup (λ other. other == n) deaths → next ≡ standings ++ (record { stage = Running; death = death; events = 0 }) ∷ []
    → next ≡ opening_in (n + 1) deaths
opening_step n deaths standings next death before scheduled pushed =
    pushed
    ∙ ap (λ (xs : List Standing). xs ++ (record { stage = Running; death = death; events = 0 }) ∷ []) before
    ∙ ap (λ (d : Option ℕ). opening_in n deaths ++ (record { stage = Running; death = d; events = 0 }) ∷ []) scheduled
    ∙ sym (opening_more n deaths)

-- one decided rank more
pub dissolve_step : (xs ys : List Standing) (i : ℕ) (d : Standing) (stage : Stage) → i < length xs → ys ≡ dissolved_in (take i xs) ++ drop i xs
    → length ys ≡ length xs → stage ≡ after_decision (get_or ys i d).stage
    → set ys i (record (get_or ys i d) { stage = stage }) ≡ dissolved_in (take (i + 1) xs) ++ drop (i + 1) xs
dissolve_step xs ys i d stage within before long decided =
    let in_ys : i < length ys = omega arith in
    ap (λ (t : Stage). set ys i (record (get_or ys i d) { stage = t })) decided
    ∙ map_over_more (λ (s : Standing). record s { stage = after_decision s.stage }) xs ys i (get_or ys i d) within before
    (get_or_default ys i d (get_or ys i d) in_ys)
