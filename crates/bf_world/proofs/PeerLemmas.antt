-- The peers of a round: each stands once, and peers are peers of each other.
use Rattle.std.proofs.Common.{◌≡◌, ◌≢◌, ℕ, zero, suc, ◌+◌, ◌<◌, Bool, true, false, ◌||◌, List, [], ◌∷◌, take, get_or, arith, refl, sym, subst, ◌∙◌, ap, inl, inr}
use Rattle.std.specs.Prelude.{◌⊎◌, ◌==◌, Option, Some, None, slice_get, IsTrue}
use Rattle.std.specs.List.Sorted.{IsStrictlyIncreasing}
use Rattle.std.proofs.lemmas.Bool.{eqb-true, eq-eqb, ne_eqb, false_from_ne_true, or_left, or_right, or_from}
use Rattle.std.proofs.lemmas.Option.{same_Some}
use Rattle.bf_lemmas.proofs.Tests.{same_tests}
use Rattle.bf_program.proofs.RestoreLemmas.{has_local}
use Rattle.bf_buddy.proofs.MemberLemmas.{all_member}
use Rattle.bf_buddy.specs.Members.{is_member}
use Rattle.bf_program.specs.declared.epoch.Epoch.{Epoch}
use Rattle.bf_program.specs.Meanings.{Meanings}
use Rattle.bf_program.specs.Lockstep.{lockstep}
use Rattle.bf_program.specs.Laws.{KeepsGood, KeepsPeers}
use Rattle.bf_program.proofs.LockstepLemmas.{stays_good}
use Rattle.bf_world.specs.Course.{local_at, peers_at}
use Rattle.bf_world.proofs.MemberLemmas.{Apart}

rest_rises : (x : ℕ) (xs : List ℕ) → IsStrictlyIncreasing (x ∷ xs) → IsStrictlyIncreasing xs
rest_rises x xs rising k within =
    let next : suc k + 1 ≡ suc (k + 1) = omega arith in
    let P : ℕ → Type 0 = λ n. get_or xs k 0 < get_or (x ∷ xs) n 0 in
    subst P next (rising (suc k) (omega (arith, within)))

-- in a rising list, the later are above the first
above_first : (x y : ℕ) (xs : List ℕ) → IsStrictlyIncreasing (x ∷ xs) → is_member xs y ≡ true → x < y
above_first x y [] rising later = absurd (cc)
above_first x y (z ∷ zs) rising later = by_first (λ member. above_first z y zs (rest_rises x (z ∷ zs) rising) member) (z == y) refl later
  where
    next : x < z
    next = rising 0 (omega arith)

    by_first : (is_member zs y ≡ true → z < y) → (b : Bool) → (z == y) ≡ b → (b || is_member zs y) ≡ true → x < y
    by_first rest true same _ = omega (arith, eqb-true z y same, next)
    by_first rest false other member = omega (arith, next, rest member)

-- what rises stands once
pub apart_rising : (xs : List ℕ) → IsStrictlyIncreasing xs → Apart xs
apart_rising [] rising = tt
apart_rising (x ∷ xs) rising =
    (false_from_ne_true (is_member xs x) (λ member. omega (arith, above_first x x xs rising member)), apart_rising xs (rest_rises x xs rising))

-- who stands at a place is a member
pub member_at : (xs : List ℕ) (i y : ℕ) → slice_get xs i ≡ Some y → is_member xs y ≡ true
member_at [] i y none = absurd (cc)
member_at (x ∷ xs) zero y here = or_left (x == y) (is_member xs y) (eq-eqb x y (same_Some x y here))
member_at (x ∷ xs) (suc i) y later = or_right (x == y) (is_member xs y) (member_at xs i y later)

-- and not among those before
pub not_before : (xs : List ℕ) (i y : ℕ) → Apart xs → slice_get xs i ≡ Some y → is_member (take i xs) y ≡ false
not_before [] i y apart none = absurd (cc)
not_before (x ∷ xs) zero y apart here = refl
not_before (x ∷ xs) (suc i) y apart later =
    or_from (x == y) (is_member (take i xs) y)
    (ne_eqb x y (λ same. let both : true ≡ false = sym (member_at xs i y later) ∙ ap (is_member xs) (sym same) ∙ apart.0 in absurd (cc)))
    (not_before xs i y apart.1 later)

-- but among the first, with it
pub among_with : (xs : List ℕ) (i y : ℕ) → slice_get xs i ≡ Some y → is_member (take (i + 1) xs) y ≡ true
among_with [] i y none = absurd (cc)
among_with (x ∷ xs) zero y here = or_left (x == y) false (eq-eqb x y (same_Some x y here))
among_with (x ∷ xs) (suc i) y later =
    let next : suc i + 1 ≡ suc (i + 1) = omega arith in
    rw next (or_right (x == y) (is_member (take (i + 1) xs) y) (among_with xs i y later))

-- one more peer tells of no other
pub others_stay : (xs : List ℕ) (i y other : ℕ) → slice_get xs i ≡ Some y → other ≢ y → is_member (take (i + 1) xs) other ≡ is_member (take i xs) other
others_stay [] i y other none differs = absurd (cc)
others_stay (x ∷ xs) zero y other here differs =
    or_from (x == other) false (ne_eqb x other (λ same. differs (sym same ∙ same_Some x y here))) refl
others_stay (x ∷ xs) (suc i) y other later differs =
    let next : suc i + 1 ≡ suc (i + 1) = omega arith in
    rw next (ap (λ b. (x == other) || b) (others_stay xs i y other later differs))

-- the first members are members
pub among_all : (count : ℕ) (xs : List ℕ) (y : ℕ) → is_member (take count xs) y ≡ true → is_member xs y ≡ true
among_all zero xs y member = absurd (cc)
among_all (suc count) [] y member = absurd (cc)
among_all (suc count) (x ∷ xs) y member = by_first (λ later. among_all count xs y later) (x == y) member
  where
    by_first : (is_member (take count xs) y ≡ true → is_member xs y ≡ true) → (b : Bool) → (b || is_member (take count xs) y) ≡ true → (b || is_member xs y) ≡ true
    by_first rest true _ = refl
    by_first rest false later = rest later

-- what may be there is there or not
pub option_cases : {X : Type 0} (o : Option X) → (o ≡ None) ⊎ ((x : X) × (o ≡ Some x))
option_cases None = inl refl
option_cases (Some x) = inr (x, refl)

module _ {S L M T R : Type 0} (m : Meanings S L M T R) (setup : S) (epoch : Epoch) (start : List L) where
  pub peers_of : (rank round : ℕ) (local : L) → local_at m setup epoch start rank round ≡ Some local
      → peers_at m setup epoch start rank round ≡ m.peers setup local epoch round
  unfolding peers_at
  peers_of rank round local its = rw its refl

  -- a rank with no local has none
  pub no_peers : (rank round : ℕ) → local_at m setup epoch start rank round ≡ None → peers_at m setup epoch start rank round ≡ []
  unfolding peers_at
  no_peers rank round none = rw none refl

  -- a rank with a peer is a member
  pub with_peer : (rank peer round : ℕ) → is_member (peers_at m setup epoch start rank round) peer ≡ true
      → (local : L) × (local_at m setup epoch start rank round ≡ Some local)
  with_peer rank peer round among = elim (option_cases (local_at m setup epoch start rank round)) [
    | inl none ↦ let without : false ≡ true = sym (ap (λ xs. is_member xs peer) (no_peers rank round none)) ∙ among in absurd (cc)
    | inr some ↦ some
  ]

module _ {S L M T R : Type 0} (m : Meanings S L M T R) (good : S → Epoch → ℕ → List L → Type 0) (setup : S)
    (goods : KeepsGood m good setup) (peers : KeepsPeers m good setup) (epoch : Epoch) (start : List L) (is_good : good setup epoch 0 start) where
  good_at : (round : ℕ) → round < m.rounds setup epoch → good setup epoch round (lockstep m setup epoch start round)
  good_at round within = stays_good m good setup goods epoch start round is_good (omega (arith, within))

  -- the peers of a round rise
  pub peers_rise : (rank round : ℕ) → round < m.rounds setup epoch → IsStrictlyIncreasing (peers_at m setup epoch start rank round)
  peers_rise rank round within = elim (option_cases (local_at m setup epoch start rank round)) [
    | inl none ↦ subst IsStrictlyIncreasing (sym (no_peers m setup epoch start rank round none)) (λ k few. absurd (omega (arith, few)))
    | inr some ↦ subst IsStrictlyIncreasing (sym (peers_of m setup epoch start rank round some.0 some.1))
        (peers.rising epoch round _ rank some.0 (good_at round within) within some.1)
  ]

  -- and so each stands once
  pub peers_apart : (rank round : ℕ) → round < m.rounds setup epoch → Apart (peers_at m setup epoch start rank round)
  peers_apart rank round within = apart_rising _ (peers_rise rank round within)

  -- a peer is another member
  pub peer_is_other : (rank peer round : ℕ) → round < m.rounds setup epoch → is_member (peers_at m setup epoch start rank round) peer ≡ true
      → (is_member epoch.members peer ≡ true) × (peer ≢ rank)
  peer_is_other rank peer round within among =
      let its : (local : L) × (local_at m setup epoch start rank round ≡ Some local) = with_peer m setup epoch start rank peer round among in
      all_member (λ p. IsTrue (is_member epoch.members p) × (p ≢ rank)) (m.peers setup its.0 epoch round) peer
      (peers.others epoch round _ rank its.0 (good_at round within) within its.1)
      (sym (ap (λ xs. is_member xs peer) (peers_of m setup epoch start rank round its.0 its.1)) ∙ among)

  -- with a local
  pub peer_has_local : (rank peer round : ℕ) → round < m.rounds setup epoch → is_member (peers_at m setup epoch start rank round) peer ≡ true
      → (other : L) × (local_at m setup epoch start peer round ≡ Some other)
  peer_has_local rank peer round within among =
      has_local epoch.members (lockstep m setup epoch start round) peer (peer_is_other rank peer round within among).0
      (goods.one_each epoch round _ (good_at round within))

  peer_of : (rank peer round : ℕ) → round < m.rounds setup epoch → is_member (peers_at m setup epoch start rank round) peer ≡ true
      → is_member (peers_at m setup epoch start peer round) rank ≡ true
  peer_of rank peer round within among =
      let its : (local : L) × (local_at m setup epoch start rank round ≡ Some local) = with_peer m setup epoch start rank peer round among in
      let other : (local : L) × (local_at m setup epoch start peer round ≡ Some local) = peer_has_local rank peer round within among in
      ap (λ xs. is_member xs rank) (peers_of m setup epoch start peer round other.0 other.1)
      ∙ peers.symmetric epoch round _ rank peer its.0 other.0 (good_at round within) within its.1 other.1
      (sym (ap (λ xs. is_member xs peer) (peers_of m setup epoch start rank round its.0 its.1)) ∙ among)

  -- peers are peers of each other
  pub peers_mutual : (rank peer round : ℕ) → round < m.rounds setup epoch
      → is_member (peers_at m setup epoch start rank round) peer ≡ is_member (peers_at m setup epoch start peer round) rank
  peers_mutual rank peer round within = same_tests _ _ (peer_of rank peer round within) (peer_of peer rank round within)
