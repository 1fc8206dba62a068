-- A rank's ledger: what its local holds and what it has sent is what it began with and what it has received.
use Rattle.std.proofs.Common.{◌≡◌, ℕ, zero, suc, ◌+◌, ◌<◌, ◌≤◌, Bool, true, false, cond, List, [], ◌∷◌, ◌++◌, length, get_or, take, nat_lt, arith, refl, sym, subst, ◌∙◌, ap, inl, inr}
use Rattle.std.specs.Prelude.{Option, Some, None, sum_by, slice_get}
use Rattle.std.specs.List.{range_with_len}
use Rattle.std.proofs.lemmas.Bool.{false_from_ne_true, ltb-true, ltb-false}
use Rattle.std.proofs.lemmas.List.{take_more}
use Rattle.std.proofs.lemmas.List.Sums.{sum_by-append, sum_by_push, sum_by-cons}
use Rattle.std.proofs.lemmas.Option.{slice_get-get_or}
use Rattle.bf_buddy.specs.Members.{is_member}
use Rattle.bf_program.specs.declared.epoch.Epoch.{Epoch}
use Rattle.bf_program.specs.Meanings.{Meanings, Regions}
use Rattle.bf_program.specs.Laws.{KeepsGood, KeepsPeers, KeepsRegions, times}
use Rattle.bf_program.specs.Lockstep.{local_of, after_sends, message, after_receives, after_round, next_locals, lockstep}
use Rattle.bf_program.proofs.SeatLemmas.{local_before}
use Rattle.bf_core.specs.declared.place.Place.{Place}
use Rattle.bf_core.specs.declared.place.Place.TheVariants.{Rounds, Past}
use Rattle.bf_world.specs.Course.{local_at, local_in_round, local_at_place, peers_at, message_at}
use Rattle.bf_world.specs.Messages.{listed, sent_in, sent_before, sent_to, received_in, received_before, received_from}
use Rattle.bf_world.proofs.MemberLemmas.{Apart}
use Rattle.bf_world.proofs.MessageLemmas.{message_of}
use Rattle.bf_world.proofs.PeerLemmas.{option_cases, among_all, member_at, peers_of, no_peers, peers_apart, peer_is_other, peer_has_local}
use Rattle.bf_world.proofs.PlaceLemmas.{IsPlaced}
use Rattle.bf_world.proofs.StepLemmas.{sending, receiving, finishing, sends_more, message_next, receives_more, receives_none, next_local}
use Rattle.std.specs.Option.{option_map}
use Rattle.bf_owners.proofs.SumLemmas.{sum_alike, sum_both, sum_listed}

-- what may be there weighs what it holds
abbrev pub weight_with : {X : Type 0} → (X → ℕ) → Option X → ℕ
weight_with weight (Some x) = weight x
weight_with weight None = 0

-- the first of those that stand once stand once
apart_first : (count : ℕ) (xs : List ℕ) → Apart xs → Apart (take count xs)
apart_first zero xs apart = tt
apart_first (suc count) [] apart = tt
apart_first (suc count) (x ∷ xs) apart = (
  false_from_ne_true (is_member (take count xs) x)
      (λ among. let both : true ≡ false = sym (among_all count xs x among) ∙ apart.0 in absurd (cc)),
  apart_first count xs apart.1,
)

-- what is told to the first of some peers weighs what is told to each of them
told_weighs : {X : Type 0} (weight : X → ℕ) (told : ℕ → Option X) (peers : List ℕ) (count n : ℕ) → Apart peers
    → ((y : ℕ) → is_member peers y ≡ true → y < n)
    → sum_by (λ other. sum_by weight (cond (is_member (take count peers) other) (listed (told other)) [])) (range_with_len 0 n)
    ≡ sum_by (λ other. weight_with weight (told other)) (take count peers)
told_weighs {X = X} weight told peers count n apart below =
    sum_alike _ (λ other. cond (is_member (take count peers) other) (weight_with weight (told other)) 0) (range_with_len 0 n)
    (λ other. at_each (is_member (take count peers) other) (told other))
    ∙ sum_listed (λ other. weight_with weight (told other)) (take count peers) n (apart_first count peers apart)
    (λ y among. below y (among_all count peers y among))
  where
    at_each : (b : Bool) (o : Option X) → sum_by weight (cond b (listed o) []) ≡ cond b (weight_with weight o) 0
    at_each true (Some x) = omega (arith, sum_by-cons weight x [])
    at_each true None = refl
    at_each false o = refl

module _ {S L M T R B U : Type 0} (m : Meanings S L M T R) (regions : Regions S L M T R B U) (good : S → Epoch → ℕ → List L → Type 0) (setup : S)
    (goods : KeepsGood m good setup) (peers : KeepsPeers m good setup) (pieces : KeepsRegions m regions good setup) (epoch : Epoch) (start : List L)
    (is_good : good setup epoch 0 start) (unit : U) where
  abbrev pub local_weight : L → ℕ
  local_weight local = times regions (regions.of_local local) unit

  abbrev pub message_weight : M → ℕ
  message_weight msg = times regions (regions.of_message msg) unit

  -- the first sends of a round
  sends_weigh : (rank round count : ℕ) (first : L) → round < m.rounds setup epoch → local_at m setup epoch start rank round ≡ Some first
      → count ≤ length (peers_at m setup epoch start rank round)
      → local_weight (after_sends m setup epoch round first count)
      + sum_by (λ to. weight_with message_weight (message_at m setup epoch start rank to round)) (take count (peers_at m setup epoch start rank round))
      ≡ local_weight first
  unfolding after_sends
  sends_weigh rank round zero first within its few = omega arith
  sends_weigh rank round (suc count) first within its few =
      let all : List ℕ = peers_at m setup epoch start rank round in
      let same : all ≡ m.peers setup first epoch round = peers_of m setup epoch start rank round first its in
      let here : count < length all = omega (arith, few) in
      let to : ℕ = get_or all count 0 in
      let next : slice_get (m.peers setup first epoch round) count ≡ Some to = ap (λ ps. slice_get ps count) (sym same) ∙ slice_get-get_or all count 0 here in
      let apart : Apart (m.peers setup first epoch round) = subst Apart same (peers_apart m good setup goods peers epoch start is_good rank round within) in
      let before : L = after_sends m setup epoch round first count in
      let rest : local_weight before + sum_by (λ p. weight_with message_weight (message_at m setup epoch start rank p round)) (take count all) ≡ local_weight first =
      sends_weigh rank round count first within its (omega (arith, few)) in
      let goes : local_weight (m.out setup before epoch round to).0 + message_weight (m.out setup before epoch round to).1 ≡ local_weight before =
      pieces.out epoch round to before unit (sending m good setup epoch start is_good rank round count to first before within its refl next) in
      let after : local_weight (after_sends m setup epoch round first (count + 1)) ≡ local_weight (m.out setup before epoch round to).0 =
      ap local_weight (sends_more m setup epoch round count to first next) in
      let told : weight_with message_weight (message_at m setup epoch start rank to round) ≡ message_weight (m.out setup before epoch round to).1 =
      ap (weight_with message_weight) (message_of m setup epoch start rank to round first its) ∙ ap message_weight (message_next m setup epoch round count to first apart next) in
      let sum : sum_by (λ p. weight_with message_weight (message_at m setup epoch start rank p round)) (take (count + 1) all)
      ≡ sum_by (λ p. weight_with message_weight (message_at m setup epoch start rank p round)) (take count all) + weight_with message_weight (message_at m setup epoch start rank to round) =
      ap (sum_by (λ p. weight_with message_weight (message_at m setup epoch start rank p round))) (take_more all count 0 here)
      ∙ sum_by_push (λ p. weight_with message_weight (message_at m setup epoch start rank p round)) (take count all) to in
      let more : count + 1 ≡ suc count = omega arith in
      let P : ℕ → Type 0 = λ n. local_weight (after_sends m setup epoch round first n)
      + sum_by (λ p. weight_with message_weight (message_at m setup epoch start rank p round)) (take n all) ≡ local_weight first in
      subst P more (omega (arith, rest, goes, after, told, sum))

  -- the first receives of a round
  receives_weigh : (rank round count : ℕ) (first : L) → round < m.rounds setup epoch → local_at m setup epoch start rank round ≡ Some first
      → count ≤ length (peers_at m setup epoch start rank round)
      → local_weight (after_receives m setup epoch round (lockstep m setup epoch start round) rank first count)
      ≡ local_weight (after_sends m setup epoch round first (length (peers_at m setup epoch start rank round)))
      + sum_by (λ from. weight_with message_weight (message_at m setup epoch start from rank round)) (take count (peers_at m setup epoch start rank round))
  receives_weigh rank round zero first within its few =
      let same : peers_at m setup epoch start rank round ≡ m.peers setup first epoch round = peers_of m setup epoch start rank round first its in
      omega (
        arith,
        ap local_weight (receives_none m setup epoch round (lockstep m setup epoch start round) rank first
            ∙ ap (λ (ps : List ℕ). after_sends m setup epoch round first (length ps)) (sym same)),
      )
  receives_weigh rank round (suc count) first within its few =
      let locals : List L = lockstep m setup epoch start round in
      let all : List ℕ = peers_at m setup epoch start rank round in
      let same : all ≡ m.peers setup first epoch round = peers_of m setup epoch start rank round first its in
      let here : count < length all = omega (arith, few) in
      let peer : ℕ = get_or all count 0 in
      let found : slice_get all count ≡ Some peer = slice_get-get_or all count 0 here in
      let next : slice_get (m.peers setup first epoch round) count ≡ Some peer = ap (λ ps. slice_get ps count) (sym same) ∙ found in
      let its_sender : (sender : L) × (local_at m setup epoch start peer round ≡ Some sender) =
      peer_has_local m good setup goods peers epoch start is_good rank peer round within (member_at all count peer found) in
      let msg : M = message m setup epoch round its_sender.0 rank in
      let before : L = after_receives m setup epoch round locals rank first count in
      let rest : local_weight before ≡ local_weight (after_sends m setup epoch round first (length all))
      + sum_by (λ from. weight_with message_weight (message_at m setup epoch start from rank round)) (take count all) =
      receives_weigh rank round count first within its (omega (arith, few)) in
      let comes : local_weight (m.take setup before epoch round peer msg) ≡ local_weight before + message_weight msg =
      pieces.take epoch round peer msg before unit
      (receiving m good setup epoch start is_good rank peer round count first before its_sender.0 msg within its refl next its_sender.1 refl) in
      let after : local_weight (after_receives m setup epoch round locals rank first (count + 1)) ≡ local_weight (m.take setup before epoch round peer msg) =
      ap local_weight (receives_more m setup epoch round locals rank count peer first its_sender.0 next its_sender.1) in
      let told : weight_with message_weight (message_at m setup epoch start peer rank round) ≡ message_weight msg =
      ap (weight_with message_weight) (message_of m setup epoch start peer rank round its_sender.0 its_sender.1) in
      let sum : sum_by (λ from. weight_with message_weight (message_at m setup epoch start from rank round)) (take (count + 1) all)
      ≡ sum_by (λ from. weight_with message_weight (message_at m setup epoch start from rank round)) (take count all)
      + weight_with message_weight (message_at m setup epoch start peer rank round) =
      ap (sum_by (λ from. weight_with message_weight (message_at m setup epoch start from rank round))) (take_more all count 0 here)
      ∙ sum_by_push (λ from. weight_with message_weight (message_at m setup epoch start from rank round)) (take count all) peer in
      let more : count + 1 ≡ suc count = omega arith in
      let P : ℕ → Type 0 = λ n. local_weight (after_receives m setup epoch round locals rank first n)
      ≡ local_weight (after_sends m setup epoch round first (length all))
      + sum_by (λ from. weight_with message_weight (message_at m setup epoch start from rank round)) (take n all) in
      subst P more (omega (arith, rest, comes, after, told, sum))

  -- over all ranks below a bound, where all members are
  module _ (ranks : ℕ) (below : (y : ℕ) → is_member epoch.members y ≡ true → y < ranks) where
    abbrev pub messages_weight : List M → ℕ
    messages_weight msgs = sum_by message_weight msgs

    -- what a rank has sent to each in a round, and received from each
    abbrev sent_weight : (rank round count : ℕ) → ℕ
    sent_weight rank round count = sum_by (λ to. messages_weight (sent_in m setup epoch start rank to round count)) (range_with_len 0 ranks)

    abbrev received_weight : (rank round count : ℕ) → ℕ
    received_weight rank round count = sum_by (λ from. messages_weight (received_in m setup epoch start rank from round count)) (range_with_len 0 ranks)

    peers_below : (rank round : ℕ) → round < m.rounds setup epoch → (y : ℕ) → is_member (peers_at m setup epoch start rank round) y ≡ true → y < ranks
    peers_below rank round within y among = below y (peer_is_other m good setup goods peers epoch start is_good rank y round within among).0

    sent_is : (rank round count : ℕ) → round < m.rounds setup epoch → sent_weight rank round count
        ≡ sum_by (λ to. weight_with message_weight (message_at m setup epoch start rank to round)) (take count (peers_at m setup epoch start rank round))
    unfolding sent_in
    sent_is rank round count within =
        told_weighs message_weight (λ to. message_at m setup epoch start rank to round) (peers_at m setup epoch start rank round) count ranks
        (peers_apart m good setup goods peers epoch start is_good rank round within) (peers_below rank round within)

    received_is : (rank round count : ℕ) → round < m.rounds setup epoch → received_weight rank round count
        ≡ sum_by (λ from. weight_with message_weight (message_at m setup epoch start from rank round)) (take count (peers_at m setup epoch start rank round))
    unfolding received_in
    received_is rank round count within =
        told_weighs message_weight (λ from. message_at m setup epoch start from rank round) (peers_at m setup epoch start rank round) count ranks
        (peers_apart m good setup goods peers epoch start is_good rank round within) (peers_below rank round within)

    -- a rank with no local is alone in each round, and has none after it
    stays_away : (rank round : ℕ) → local_at m setup epoch start rank round ≡ None → local_at m setup epoch start rank (suc round) ≡ None
    unfolding next_locals
    stays_away rank round none = elim (option_cases (local_at m setup epoch start rank (suc round))) [
      | inl is ↦ is
      | inr some ↦
          let before = local_before (λ seat. after_round m setup epoch round (lockstep m setup epoch start round) seat.0 seat.1)
          epoch.members (lockstep m setup epoch start round) rank some.0 some.1 in
          let both : Some before.0 ≡ None = sym before.1.0 ∙ none in
          absurd (cc)
    ]

    -- a round of a rank with a local: what it has at the end and has sent is what it had and has received
    round_weighs : (rank round : ℕ) → round < m.rounds setup epoch
        → weight_with local_weight (local_at m setup epoch start rank (suc round)) + sent_weight rank round (length (peers_at m setup epoch start rank round))
        ≡ weight_with local_weight (local_at m setup epoch start rank round) + received_weight rank round (length (peers_at m setup epoch start rank round))
    round_weighs rank round within = elim (option_cases (local_at m setup epoch start rank round)) [
      | inl none ↦
          let alone : peers_at m setup epoch start rank round ≡ [] = no_peers m setup epoch start rank round none in
          let nothing : (told : ℕ → ℕ) → sum_by told (take (length (peers_at m setup epoch start rank round)) (peers_at m setup epoch start rank round)) ≡ 0 =
          λ told. ap (λ (ps : List ℕ). sum_by told (take (length ps) ps)) alone in
          omega (
            arith,
            ap (weight_with local_weight) (stays_away rank round none),
            ap (weight_with local_weight) none,
            sent_is rank round (length (peers_at m setup epoch start rank round)) within,
            nothing (λ to. weight_with message_weight (message_at m setup epoch start rank to round)),
            received_is rank round (length (peers_at m setup epoch start rank round)) within,
            nothing (λ from. weight_with message_weight (message_at m setup epoch start from rank round)),
          )
      | inr some ↦
          let first : L = some.0 in
          let all : List ℕ = peers_at m setup epoch start rank round in
          let same : all ≡ m.peers setup first epoch round = peers_of m setup epoch start rank round first some.1 in
          let heard : L = after_receives m setup epoch round (lockstep m setup epoch start round) rank first (length (m.peers setup first epoch round)) in
          let more : round + 1 ≡ suc round = omega arith in
          let after : local_at m setup epoch start rank (suc round) ≡ Some (m.finish setup heard epoch round) =
          ap (local_at m setup epoch start rank) (sym more) ∙ next_local m setup epoch start rank round first some.1 in
          omega (
            arith,
            ap (weight_with local_weight) after,
            ap (weight_with local_weight) some.1,
            pieces.finish epoch round heard unit (finishing m good setup epoch start is_good rank round first heard within some.1 refl),
            ap (λ (ps : List ℕ). local_weight (after_receives m setup epoch round (lockstep m setup epoch start round) rank first (length ps))) same,
            receives_weigh rank round (length all) first within some.1 (omega arith),
            sends_weigh rank round (length all) first within some.1 (omega arith),
            sent_is rank round (length all) within,
            received_is rank round (length all) within,
          )
    ]

    split_sum : (f g : ℕ → List M) → sum_by (λ r. messages_weight (f r ++ g r)) (range_with_len 0 ranks)
        ≡ sum_by (λ r. messages_weight (f r)) (range_with_len 0 ranks) + sum_by (λ r. messages_weight (g r)) (range_with_len 0 ranks)
    split_sum f g =
        sum_alike (λ r. messages_weight (f r ++ g r)) (λ r. messages_weight (f r) + messages_weight (g r)) (range_with_len 0 ranks)
        (λ r. sum_by-append message_weight (f r) (g r))
        ∙ sum_both (λ r. messages_weight (f r)) (λ r. messages_weight (g r)) (range_with_len 0 ranks)

    -- the rounds before one
    rounds_weigh : (rank round : ℕ) → round ≤ m.rounds setup epoch
        → weight_with local_weight (local_at m setup epoch start rank round)
        + sum_by (λ to. messages_weight (sent_before m setup epoch start rank to round)) (range_with_len 0 ranks)
        ≡ weight_with local_weight (local_of epoch.members start rank)
        + sum_by (λ from. messages_weight (received_before m setup epoch start rank from round)) (range_with_len 0 ranks)
    rounds_weigh rank zero within = refl
    rounds_weigh rank (suc round) within =
        let few : round < m.rounds setup epoch = omega (arith, within) in
        let all : ℕ = length (peers_at m setup epoch start rank round) in
        omega (
          arith,
          rounds_weigh rank round (omega (arith, within)),
          round_weighs rank round few,
          split_sum (λ to. sent_before m setup epoch start rank to round) (λ to. sent_in m setup epoch start rank to round all),
          split_sum (λ from. received_before m setup epoch start rank from round) (λ from. received_in m setup epoch start rank from round all),
        )

    -- where a rank stands
    pub place_weighs : (rank : ℕ) (place : Place) → IsPlaced m setup epoch start rank place
        → weight_with local_weight (local_at_place m setup epoch start rank place)
        + sum_by (λ to. messages_weight (sent_to m setup epoch start rank to place)) (range_with_len 0 ranks)
        ≡ weight_with local_weight (local_of epoch.members start rank)
        + sum_by (λ from. messages_weight (received_from m setup epoch start rank from place)) (range_with_len 0 ranks)
    unfolding local_at_place sent_to received_from
    place_weighs rank Past placed = rounds_weigh rank (m.rounds setup epoch) (omega arith)
    place_weighs rank (Rounds round sent received here) placed = elim (option_cases (local_at m setup epoch start rank round)) [
      | inl none ↦
          let alone : length here ≡ 0 = ap length (placed.peers_are ∙ no_peers m setup epoch start rank round none) in
          absurd (omega (arith, alone, placed.receives))
      | inr some ↦ omega (
        arith,
        rounds_weigh rank round (omega (arith, placed.within)),
        ap (weight_with local_weight) some.1,
        ap (λ (o : Option L). weight_with local_weight (option_map (local_in_round m setup epoch start rank round sent received here) o)) some.1,
        split_sum (λ to. sent_before m setup epoch start rank to round) (λ to. sent_in m setup epoch start rank to round sent),
        split_sum (λ from. received_before m setup epoch start rank from round) (λ from. received_in m setup epoch start rank from round received),
        by_turn some.0 some.1 (nat_lt sent (length here)) refl,
      )
    ]
      where
        all : List ℕ
        all = peers_at m setup epoch start rank round

        same_length : length here ≡ length all
        same_length = ap length placed.peers_are

        by_turn : (first : L) → local_at m setup epoch start rank round ≡ Some first → (b : Bool) → nat_lt sent (length here) ≡ b
            → local_weight (cond b (after_sends m setup epoch round first sent) (after_receives m setup epoch round (lockstep m setup epoch start round) rank first received))
            + sent_weight rank round sent ≡ local_weight first + received_weight rank round received
        by_turn first its true less =
            let none : received ≡ 0 = placed.in_turn (ltb-true sent (length here) less) in
            omega (
              arith,
              sends_weigh rank round sent first placed.within its (omega (arith, placed.sends, same_length)),
              sent_is rank round sent placed.within,
              received_is rank round received placed.within
                  ∙ ap (λ n. sum_by (λ from. weight_with message_weight (message_at m setup epoch start from rank round)) (take n all)) none,
            )
        by_turn first its false full =
            let whole : sent ≡ length all = omega (arith, placed.sends, ltb-false sent (length here) full, same_length) in
            omega (
              arith,
              receives_weigh rank round received first placed.within its (omega (arith, placed.receives, same_length)),
              sends_weigh rank round (length all) first placed.within its (omega arith),
              sent_is rank round sent placed.within
                  ∙ ap (λ n. sum_by (λ to. weight_with message_weight (message_at m setup epoch start rank to round)) (take n all)) whole,
              received_is rank round received placed.within,
            )
