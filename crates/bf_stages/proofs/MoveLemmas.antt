-- The round in which items go to other ranks leaves each with its part by the new owners.
use Rattle.std.proofs.Common.{◌≡◌, ◌≢◌, ℕ, ◌+◌, ◌<◌, Bool, true, false, cond, List, [], ◌∷◌, ◌++◌, map, arith, refl, ap, sym, ◌∙◌, subst}
use Rattle.std.proofs.Math.Bool.{and-true}
use Rattle.std.specs.Prelude.{◌==◌, ◌||◌, ◌&&◌, not, filter, All, AllPairs, IsTrue}
use Rattle.std.specs.List.{fold, count_by}
use Rattle.std.specs.List.Sorted.{IsStrictlyIncreasing}
use Rattle.std.proofs.lemmas.Bool.{eqb-true}
use Rattle.std.proofs.lemmas.Bool.Decides.{nat_tests}
use Rattle.std.proofs.lemmas.List.Elements.{All-head, All-tail, filter_agree}
use Rattle.std.proofs.lemmas.List.Kept.{AllPairs-from_increasing}
use Rattle.std.proofs.lemmas.List.Sums.{fold-append}
use Rattle.bf_buddy.specs.Members.{is_member}
use Rattle.bf_lemmas.proofs.Tests.{eqb_swap}
use Rattle.bf_parts.specs.Counts.{count_cons}
use Rattle.bf_rounds.specs.Gathering.{AreMutual}
use Rattle.bf_rounds.proofs.LeadLemmas.{peers_rise, peers_others, peers_see}
use Rattle.bf_buddy.proofs.MemberLemmas.{all_member}
use Rattle.bf_rounds.proofs.VectorLemmas.{member_cut}
use Rattle.bf_parts.specs.Merges.{merged}
use Rattle.bf_lemmas.proofs.Lists.{filter_alike, filter_mapped, filter_twice}
use Rattle.bf_parts.specs.MergeLaws.{Precedes, first_pairs, rest_pairs}
use Rattle.bf_parts.specs.MoveLaws.{AreApart, gathered_is}
use Rattle.bf_parts.specs.CoverLaws.{count_merged, count_mapped}
use Rattle.bf_rounds.specs.Leading.{LeadsBy, Weighs}
use Rattle.bf_stages.specs.Moves.{Hand, move_play, hand_of, goes, move_course, GoesToPeer}

filter_kept : {X Y : Type 0} (p : Y → Bool) (f : X → Y) (q : X → Bool) (xs : List X) → filter p (map f (filter q xs)) ≡ map f (filter (λ x. q x && p (f x)) xs)
filter_kept p f q xs = filter_mapped p f (filter q xs) ∙ ap (map f) (filter_twice (λ x. p (f x)) q xs)

settled : {K X : Type 0} (f : X → X) (item item_after : K → X) (p : K → Bool) (ks : List K) → All (λ k. p k ≡ true → f (item k) ≡ item_after k) ks
    → map f (map item (filter p ks)) ≡ map item_after (filter p ks)
settled f item item_after p [] same = refl
settled {K = K} {X = X} f item item_after p (k ∷ ks) same =
    at (p k) (All-head (λ k. p k ≡ true → f (item k) ≡ item_after k) k ks same) (settled f item item_after p ks (All-tail (λ k. p k ≡ true → f (item k) ≡ item_after k) k ks same))
  where
    at : (b : Bool) → (b ≡ true → f (item k) ≡ item_after k) → map f (map item (filter p ks)) ≡ map item_after (filter p ks)
        → map f (map item (cond b (k ∷ filter p ks) (filter p ks))) ≡ map item_after (cond b (k ∷ filter p ks) (filter p ks))
    at true here later = ap (λ (y : X). y ∷ map f (map item (filter p ks))) (here refl) ∙ ap (λ (ys : List X). item_after k ∷ ys) later
    at false here later = later

member_more : (done : List ℕ) (x y : ℕ) → is_member (done ++ x ∷ []) y ≡ (is_member done y || x == y)
member_more [] x y = at (x == y)
  where
    at : (b : Bool) → (b || false) ≡ b
    at true = refl
    at false = refl
member_more (d ∷ done) x y = ap (λ b. d == y || b) (member_more done x y) ∙ assoc (d == y) (is_member done y) (x == y)
  where
    assoc : (a b c : Bool) → (a || (b || c)) ≡ ((a || b) || c)
    assoc true b c = refl
    assoc false b c = refl

none_above : (x : ℕ) (xs : List ℕ) → All (λ y. x < y) xs → is_member xs x ≡ false
none_above x [] above = refl
none_above x (y ∷ ys) above =
    let higher : x < y = All-head (λ y. x < y) y ys above in
    let other : (y == x) ≡ false = grind (arith, nat_tests) in
    rw other (none_above x ys (All-tail (λ y. x < y) y ys above))

pairs_apart : (xs : List ℕ) → AllPairs (λ a b. a < b) xs → AreApart xs
pairs_apart [] pairs = tt
pairs_apart (x ∷ xs) pairs = (none_above x xs (first_pairs (λ a b. a < b) x xs pairs), pairs_apart xs (rest_pairs (λ a b. a < b) x xs pairs))

-- ranks in rising order are apart
pub rising_apart : (xs : List ℕ) → IsStrictlyIncreasing xs → AreApart xs
rising_apart xs up = pairs_apart xs (AllPairs-from_increasing xs up)

front_apart : (done rest : List ℕ) (x : ℕ) → AreApart (done ++ x ∷ rest) → is_member done x ≡ false
front_apart [] rest x apart = refl
front_apart (d ∷ done) rest x apart = at (d == x) refl (front_apart done rest x apart.1)
  where
    at : (b : Bool) → (d == x) ≡ b → is_member done x ≡ false → (b || is_member done x) ≡ false
    at true same later = absurd (let e : true ≡ false = sym (member_cut done rest x) ∙ ap (is_member (done ++ x ∷ rest)) (sym (eqb-true d x same)) ∙ apart.0 in cc)
    at false other later = later

module _ {K N I : Type 0} (first : I → I → Bool) (keys : List K) (item item_after : K → I) (rising : AllPairs (Precedes first item) keys) (old new : K → ℕ) (known : ℕ → N) (peers : ℕ → List ℕ)
    (talks : (members : List ℕ) → Hand N I → List ℕ) (going : (rank : ℕ) → N → I → ℕ) (settle : (rank : ℕ) → N → I → I)
    (members : List ℕ) (sees : ℕ → ℕ → Bool) (up : IsStrictlyIncreasing members) (seen_both : AreMutual members sees peers)
    (talks_is : (rank : ℕ) → IsTrue (is_member members rank) → talks members (hand_of keys known rank item (λ k. old k == rank)) ≡ peers rank)
    (going_is : (rank : ℕ) → IsTrue (is_member members rank) → All (λ k. (old k == rank) ≡ true → going rank (known rank) (item k) ≡ new k) keys)
    (settle_is : (rank : ℕ) → IsTrue (is_member members rank) → All (λ k. (new k == rank) ≡ true → settle rank (known rank) (item k) ≡ item_after k) keys)
    (owned : All (λ k. is_member members (old k) ≡ true) keys) (to_peers : All (GoesToPeer first keys item old new known peers) keys) where
  apart_self : (rank : ℕ) → IsTrue (is_member members rank) → is_member (peers rank) rank ≡ false
  apart_self rank member = at (is_member (peers rank) rank) refl
    where
      at : (b : Bool) → is_member (peers rank) rank ≡ b → b ≡ false
      at true seen = absurd ((all_member (λ peer. IsTrue (is_member members peer) × (peer ≢ rank)) (peers rank) rank (peers_others members sees peers seen_both rank member) seen).1 refl)
      at false _ = refl

  -- what is left after one more send
  left_test : (rank to : ℕ) (done : List ℕ) → (k : K) → ((old k == rank) ≡ true → going rank (known rank) (item k) ≡ new k)
      → ((old k == rank && not (is_member done (new k))) && not (going rank (known rank) (item k) == to)) ≡ (old k == rank && not (is_member (done ++ to ∷ []) (new k)))
  left_test rank to done k goes_on = at (old k == rank) refl
    where
      tests : (d t u : Bool) → t ≡ u → (not d && not t) ≡ not (d || u)
      tests true t u same = refl
      tests false t u same = ap not same

      at : (b : Bool) → (old k == rank) ≡ b → ((b && not (is_member done (new k))) && not (going rank (known rank) (item k) == to)) ≡ (b && not (is_member (done ++ to ∷ []) (new k)))
      at true its = tests (is_member done (new k)) (going rank (known rank) (item k) == to) (to == new k) (ap (λ n. n == to) (goes_on its) ∙ eqb_swap (new k) to)
          ∙ ap not (sym (member_more done to (new k)))
      at false other = refl

  -- what is sent
  sent_test : (rank to : ℕ) (done : List ℕ) → is_member done to ≡ false → (k : K) → ((old k == rank) ≡ true → going rank (known rank) (item k) ≡ new k)
      → ((old k == rank && not (is_member done (new k))) && going rank (known rank) (item k) == to) ≡ (new k == to && old k == rank)
  sent_test rank to done fresh k goes_on = at (old k == rank) refl
    where
      false_and : (b : Bool) → (b && false) ≡ false
      false_and true = refl
      false_and false = refl

      by : (b : Bool) → (new k == to) ≡ b → (not (is_member done (new k)) && b) ≡ (b && true)
      by true same = ap (λ n. not (is_member done n) && true) (eqb-true (new k) to same) ∙ ap (λ b. not b && true) fresh
      by false other = false_and (not (is_member done (new k)))

      at : (b : Bool) → (old k == rank) ≡ b → ((b && not (is_member done (new k))) && going rank (known rank) (item k) == to) ≡ (new k == to && b)
      at true its = ap (λ n. not (is_member done (new k)) && n == to) (goes_on its) ∙ by (new k == to) refl
      at false other = sym (false_and (new k == to))

  -- what stays
  stay_test : (rank : ℕ) → IsTrue (is_member members rank) → (k : K) → GoesToPeer first keys item old new known peers k
      → (old k == rank && not (is_member (peers rank) (new k))) ≡ (new k == rank && old k == rank)
  stay_test rank member k to_peer = at (old k == rank) refl
    where
      false_and : (b : Bool) → (b && false) ≡ false
      false_and true = refl
      false_and false = refl

      by : old k ≡ rank → (b : Bool) → (new k == rank) ≡ b → not (is_member (peers rank) (new k)) ≡ (b && true)
      by its true same = ap (λ n. not (is_member (peers rank) n)) (eqb-true (new k) rank same) ∙ ap not (apart_self rank member)
      by its false other = ap not (ap (λ r. is_member (peers r) (new k)) (sym its) ∙ to_peer (ap (λ r. new k == r) its ∙ other))

      at : (b : Bool) → (old k == rank) ≡ b → (b && not (is_member (peers rank) (new k))) ≡ (new k == rank && b)
      at true its = by (eqb-true (old k) rank its) (new k == rank) refl
      at false other = sym (false_and (new k == rank))

  -- what a rank has at the end
  have_test : (rank : ℕ) → IsTrue (is_member members rank) → (k : K) → (is_member members (old k) ≡ true) × GoesToPeer first keys item old new known peers k
      → (new k == rank && (old k == rank || is_member (peers rank) (old k))) ≡ (new k == rank)
  have_test rank member k has = at (new k == rank) refl
    where
      by : new k ≡ rank → (b : Bool) → (old k == rank) ≡ b → (b || is_member (peers rank) (old k)) ≡ true
      by its true same = refl
      by its false other = peers_see members sees peers seen_both (old k) rank has.0 member
          (ap (is_member (peers (old k))) (sym its) ∙ has.1 (ap (λ r. r == old k) its ∙ eqb_swap rank (old k) ∙ other))

      at : (b : Bool) → (new k == rank) ≡ b → (b && (old k == rank || is_member (peers rank) (old k))) ≡ b
      at true its = by (eqb-true (new k) rank its) (old k == rank) refl
      at false other = refl

  both_all : (ks : List K) → All (λ k. is_member members (old k) ≡ true) ks → All (GoesToPeer first keys item old new known peers) ks
      → All (λ k. (is_member members (old k) ≡ true) × GoesToPeer first keys item old new known peers k) ks
  both_all ks one two = λ i d within. (one i d within, two i d within)

  all_there : (rank : ℕ) → IsTrue (is_member members rank)
      → fold (λ items peer. merged first items (goes keys item old new peer rank)) (goes keys item old new rank rank) (peers rank) ≡ map item (filter (λ k. new k == rank) keys)
  all_there rank member =
      gathered_is first item keys rising old (λ k. new k == rank) (peers rank) (λ k. old k == rank) (rising_apart (peers rank) (peers_rise members sees peers up seen_both rank member))
      (λ k its. ap (is_member (peers rank)) (eqb-true (old k) rank its) ∙ apart_self rank member)
      ∙ ap (map item) (filter_alike (λ k. (is_member members (old k) ≡ true) × GoesToPeer first keys item old new known peers k)
      (λ k. new k == rank && (old k == rank || is_member (peers rank) (old k))) (λ k. new k == rank) (λ k has. have_test rank member k has) keys (both_all keys owned to_peers))

  pub move_by : LeadsBy (move_play first talks going settle) members (move_course first keys item old new known peers)
      (λ rank. hand_of keys known rank item (λ k. old k == rank)) (λ rank. hand_of keys known rank item_after (λ k. new k == rank))
  move_by = record {
    peers = talks_is;
    rising = peers_rise members sees peers up seen_both;
    others = peers_others members sees peers seen_both;
    symmetric = peers_see members sees peers seen_both;
    begins = λ rank member. ap (λ (xs : List K). record { rank = rank; known = known rank; items = map item xs })
        (filter_agree (λ k. old k == rank && not (is_member [] (new k))) (λ k. old k == rank) (λ k. and-true (old k == rank)) keys);
    out = λ rank to done rest member is.
        let fresh : is_member done to ≡ false = front_apart done rest to (subst AreApart is (rising_apart (peers rank) (peers_rise members sees peers up seen_both rank member))) in
        let left : filter (λ i. not (going rank (known rank) i == to)) (map item (filter (λ k. old k == rank && not (is_member done (new k))) keys))
        ≡ map item (filter (λ k. old k == rank && not (is_member (done ++ to ∷ []) (new k))) keys) =
        filter_kept (λ i. not (going rank (known rank) i == to)) item (λ k. old k == rank && not (is_member done (new k))) keys
        ∙ ap (map item) (filter_alike (λ k. (old k == rank) ≡ true → going rank (known rank) (item k) ≡ new k) (λ k. (old k == rank && not (is_member done (new k))) && not (going rank (known rank) (item k) == to))
        (λ k. old k == rank && not (is_member (done ++ to ∷ []) (new k))) (left_test rank to done) keys (going_is rank member)) in
        let gone : filter (λ i. going rank (known rank) i == to) (map item (filter (λ k. old k == rank && not (is_member done (new k))) keys)) ≡ goes keys item old new rank to =
        filter_kept (λ i. going rank (known rank) i == to) item (λ k. old k == rank && not (is_member done (new k))) keys
        ∙ ap (map item) (filter_alike (λ k. (old k == rank) ≡ true → going rank (known rank) (item k) ≡ new k) (λ k. (old k == rank && not (is_member done (new k))) && going rank (known rank) (item k) == to) (λ k. new k == to && old k == rank)
        (sent_test rank to done fresh) keys (going_is rank member)) in
        λ i. (record { rank = rank; known = known rank; items = left i }, gone i);
    turns = λ rank member. ap (λ (xs : List K). record { rank = rank; known = known rank; items = map item xs })
        (filter_alike (GoesToPeer first keys item old new known peers) (λ k. old k == rank && not (is_member (peers rank) (new k))) (λ k. new k == rank && old k == rank)
        (λ k to_peer. stay_test rank member k to_peer) keys to_peers);
    take = λ rank peer done rest member is. ap (λ (xs : List I). record { rank = rank; known = known rank; items = xs })
        (sym (fold-append (λ items peer. merged first items (goes keys item old new peer rank)) (goes keys item old new rank rank) done (peer ∷ [])));
    finish = λ rank member. ap (λ (xs : List I). record { rank = rank; known = known rank; items = xs })
        (ap (map (settle rank (known rank))) (all_there rank member)
        ∙ settled (settle rank (known rank)) item item_after (λ k. new k == rank) keys (settle_is rank member));
  }

-- what passes a test and what does not are all
count_split : {I : Type 0} (test p : I → Bool) (xs : List I) → count_by test (filter (λ i. not (p i)) xs) + count_by test (filter p xs) ≡ count_by test xs
count_split test p [] = refl
count_split test p (x ∷ xs) = at (p x) (count_split test p xs)
  where
    one : (a b c d : ℕ) → a + b ≡ c → a + (d + b) ≡ d + c
    one a b c d e = omega arith

    two : (a b c d : ℕ) → a + b ≡ c → (d + a) + b ≡ d + c
    two a b c d e = omega arith

    at : (b : Bool) → count_by test (filter (λ i. not (p i)) xs) + count_by test (filter p xs) ≡ count_by test xs
        → count_by test (cond (not b) (x ∷ filter (λ i. not (p i)) xs) (filter (λ i. not (p i)) xs)) + count_by test (cond b (x ∷ filter p xs) (filter p xs)) ≡ count_by test (x ∷ xs)
    at true later = ap (λ n. count_by test (filter (λ i. not (p i)) xs) + n) (count_cons test x (filter p xs)) ∙ one _ _ _ _ later ∙ sym (count_cons test x xs)
    at false later = ap (λ n. n + count_by test (filter p xs)) (count_cons test x (filter (λ i. not (p i)) xs)) ∙ two _ _ _ _ later ∙ sym (count_cons test x xs)

-- no item is lost or made
pub move_weighs : {N I : Type 0} (first : I → I → Bool) (talks : (members : List ℕ) → Hand N I → List ℕ) (going : (rank : ℕ) → N → I → ℕ) (settle : (rank : ℕ) → N → I → I) (test : I → Bool)
    → ((rank : ℕ) (known : N) (item : I) → test (settle rank known item) ≡ test item)
    → Weighs (λ (hand : Hand N I). count_by test hand.items) (λ items. count_by test items) (move_play first talks going settle)
move_weighs first talks going settle test same = record {
  out = λ hand to. count_split test (λ item. going hand.rank hand.known item == to) hand.items;
  hear = λ hand peer msg. count_merged first test hand.items msg;
  finish = λ hand. count_mapped (settle hand.rank hand.known) test test (same hand.rank hand.known) hand.items;
}
