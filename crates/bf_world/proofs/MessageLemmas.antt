-- Which messages of the lockstep have been sent and received.
use Rattle.std.proofs.Common.{◌≡◌, ◌≢◌, ℕ, zero, suc, ◌+◌, ◌-◌, ◌<◌, ◌≤◌, Bool, true, false, cond, List, [], ◌∷◌, ◌++◌, length, take, nat_lt, append_assoc, add-one, arith, refl, sym, subst, ◌∙◌, ap, inl, inr}
use Rattle.std.specs.Prelude.{◌⊎◌, Some, None, is_some, slice_get, IsTrue, if◌then◌else◌}
use Rattle.std.proofs.lemmas.Bool.{cases_lt, cases_order, ltb-true, ltb-false}
use Rattle.std.proofs.lemmas.List.{append-nil, append_cancel_left, take_all, nil_from_length, length-append}
use Rattle.std.proofs.lemmas.Option.{slice_get-get_or}
use Rattle.bf_buddy.specs.Members.{is_member}
use Rattle.bf_program.specs.declared.epoch.Epoch.{Epoch}
use Rattle.bf_program.specs.Meanings.{Meanings}
use Rattle.bf_program.specs.Lockstep.{message}
use Rattle.bf_program.specs.Laws.{KeepsGood, KeepsPeers}
use Rattle.bf_core.specs.declared.place.Place.{Place}
use Rattle.bf_core.specs.declared.place.Place.TheVariants.{Rounds, Past}
use Rattle.bf_core.specs.Places.{next_send, next_receive, is_past, round_of}
use Rattle.bf_core.specs.Orders.{IsBehind}
use Rattle.bf_world.specs.Course.{local_at, peers_at, message_at, place_with, place_from, first_place, after_send, after_receive}
use Rattle.bf_world.specs.Messages.{listed, sent_in, sent_before, sent_to, received_in, received_before, received_from}
use Rattle.bf_world.proofs.PlaceLemmas.{IsPlaced, IsInRound, receives_at}
use Rattle.bf_world.proofs.PeerLemmas.{member_at, not_before, among_with, others_stay, among_all, with_peer, peers_apart, peers_mutual}

abbrev head_or : {X : Type 0} → X → List X → X
head_or x [] = x
head_or x (y ∷ ys) = y

module _ {S L M T R : Type 0} (m : Meanings S L M T R) (setup : S) (epoch : Epoch) (start : List L) where
  -- the message of a rank that is a member
  pub message_of : (from to round : ℕ) (local : L) → local_at m setup epoch start from round ≡ Some local
      → message_at m setup epoch start from to round ≡ Some (message m setup epoch round local to)
  unfolding message_at
  message_of from to round local its = rw its refl

  -- to whom is among the first peers, the message of the round is sent
  sent_among : (from to round count : ℕ) → is_member (take count (peers_at m setup epoch start from round)) to ≡ true
      → sent_in m setup epoch start from to round count ≡ listed (message_at m setup epoch start from to round)
  unfolding sent_in
  sent_among from to round count among = rw among refl

  sent_not_among : (from to round count : ℕ) → is_member (take count (peers_at m setup epoch start from round)) to ≡ false
      → sent_in m setup epoch start from to round count ≡ []
  unfolding sent_in
  sent_not_among from to round count without = rw without refl

  received_among : (to from round count : ℕ) → is_member (take count (peers_at m setup epoch start to round)) from ≡ true
      → received_in m setup epoch start to from round count ≡ listed (message_at m setup epoch start from to round)
  unfolding received_in
  received_among to from round count among = rw among refl

  received_not_among : (to from round count : ℕ) → is_member (take count (peers_at m setup epoch start to round)) from ≡ false
      → received_in m setup epoch start to from round count ≡ []
  unfolding received_in
  received_not_among to from round count without = rw without refl

  -- where as much is told of who is among the first peers, as much is sent
  sent_alike : (from to round a b : ℕ)
      → is_member (take a (peers_at m setup epoch start from round)) to ≡ is_member (take b (peers_at m setup epoch start from round)) to
      → sent_in m setup epoch start from to round a ≡ sent_in m setup epoch start from to round b
  unfolding sent_in
  sent_alike from to round a b same = ap (λ t. cond t (listed (message_at m setup epoch start from to round)) []) same

  received_alike : (to from round a b : ℕ)
      → is_member (take a (peers_at m setup epoch start to round)) from ≡ is_member (take b (peers_at m setup epoch start to round)) from
      → received_in m setup epoch start to from round a ≡ received_in m setup epoch start to from round b
  unfolding received_in
  received_alike to from round a b same = ap (λ t. cond t (listed (message_at m setup epoch start from to round)) []) same

  all_peers : (rank peer round : ℕ)
      → is_member (take (length (peers_at m setup epoch start rank round)) (peers_at m setup epoch start rank round)) peer
      ≡ is_member (peers_at m setup epoch start rank round) peer
  all_peers rank peer round =
      ap (λ xs. is_member xs peer) (take_all (length (peers_at m setup epoch start rank round)) (peers_at m setup epoch start rank round) (omega arith))

  sent_to_none : (from to round : ℕ) → peers_at m setup epoch start from round ≡ []
      → sent_in m setup epoch start from to round (length (peers_at m setup epoch start from round)) ≡ []
  sent_to_none from to round none =
      sent_not_among from to round _ (all_peers from to round ∙ ap (λ xs. is_member xs to) none)

  received_from_none : (to from round : ℕ) → peers_at m setup epoch start to round ≡ []
      → received_in m setup epoch start to from round (length (peers_at m setup epoch start to round)) ≡ []
  received_from_none to from round none =
      received_not_among to from round _ (all_peers to from round ∙ ap (λ xs. is_member xs from) none)

  -- what was sent before a round, where the rounds before it are done
  pub sent_at_from : (rank other left round : ℕ) → round + left ≡ m.rounds setup epoch
      → sent_to m setup epoch start rank other (place_from m setup epoch start rank left round) ≡ sent_before m setup epoch start rank other round
  unfolding sent_to sent_in place_from
  sent_at_from rank other zero round whole =
      let done : m.rounds setup epoch ≡ round = omega (arith, whole) in
      ap (sent_before m setup epoch start rank other) done
  sent_at_from rank other (suc left) round whole =
      by_peers (peers_at m setup epoch start rank round) refl (sent_at_from rank other left (round + 1) (omega (arith, whole)))
    where
      by_peers : (peers : List ℕ) → peers_at m setup epoch start rank round ≡ peers
          → sent_to m setup epoch start rank other (place_from m setup epoch start rank left (round + 1)) ≡ sent_before m setup epoch start rank other (round + 1)
          → sent_to m setup epoch start rank other (place_with round peers (place_from m setup epoch start rank left (round + 1)))
          ≡ sent_before m setup epoch start rank other round
      by_peers [] none later =
          later ∙ ap (sent_before m setup epoch start rank other) (add-one round)
          ∙ ap (λ xs. sent_before m setup epoch start rank other round ++ xs) (sent_to_none rank other round none)
          ∙ append-nil (sent_before m setup epoch start rank other round)
      by_peers (peer ∷ peers) some later = append-nil (sent_before m setup epoch start rank other round)

  -- what was received before a round, where the rounds before it are done
  pub received_at_from : (rank other left round : ℕ) → round + left ≡ m.rounds setup epoch
      → received_from m setup epoch start rank other (place_from m setup epoch start rank left round) ≡ received_before m setup epoch start rank other round
  unfolding received_from received_in place_from
  received_at_from rank other zero round whole =
      let done : m.rounds setup epoch ≡ round = omega (arith, whole) in
      ap (received_before m setup epoch start rank other) done
  received_at_from rank other (suc left) round whole =
      by_peers (peers_at m setup epoch start rank round) refl (received_at_from rank other left (round + 1) (omega (arith, whole)))
    where
      by_peers : (peers : List ℕ) → peers_at m setup epoch start rank round ≡ peers
          → received_from m setup epoch start rank other (place_from m setup epoch start rank left (round + 1)) ≡ received_before m setup epoch start rank other (round + 1)
          → received_from m setup epoch start rank other (place_with round peers (place_from m setup epoch start rank left (round + 1)))
          ≡ received_before m setup epoch start rank other round
      by_peers [] none later =
          later ∙ ap (received_before m setup epoch start rank other) (add-one round)
          ∙ ap (λ xs. received_before m setup epoch start rank other round ++ xs) (received_from_none rank other round none)
          ∙ append-nil (received_before m setup epoch start rank other round)
      by_peers (peer ∷ peers) some later = append-nil (received_before m setup epoch start rank other round)

  -- at the beginning of the epoch nothing is sent or received
  pub sent_at_first : (rank other : ℕ) → sent_to m setup epoch start rank other (first_place m setup epoch start rank) ≡ []
  sent_at_first rank other = sent_at_from rank other (m.rounds setup epoch) 0 (omega arith)

  pub received_at_first : (rank other : ℕ) → received_from m setup epoch start rank other (first_place m setup epoch start rank) ≡ []
  received_at_first rank other = received_at_from rank other (m.rounds setup epoch) 0 (omega arith)

  -- what is sent of a round is a part of it
  sent_part : (from to round count : ℕ)
      → (rest : List M) × (sent_in m setup epoch start from to round (length (peers_at m setup epoch start from round))
      ≡ sent_in m setup epoch start from to round count ++ rest)
  sent_part from to round count = by_test (is_member (take count (peers_at m setup epoch start from round)) to) refl
    where
      by_test : (b : Bool) → is_member (take count (peers_at m setup epoch start from round)) to ≡ b
          → (rest : List M) × (sent_in m setup epoch start from to round (length (peers_at m setup epoch start from round))
          ≡ sent_in m setup epoch start from to round count ++ rest)
      by_test true among = (
        [],
        sent_alike from to round _ count
            (all_peers from to round ∙ among_all count (peers_at m setup epoch start from round) to among ∙ sym among)
            ∙ sym (append-nil (sent_in m setup epoch start from to round count)),
      )
      by_test false without = (
        sent_in m setup epoch start from to round (length (peers_at m setup epoch start from round)),
        sym (ap (λ xs. xs ++ sent_in m setup epoch start from to round (length (peers_at m setup epoch start from round)))
            (sent_not_among from to round count without)),
      )

  -- what is sent before a round is a part of what is sent before a later one
  pub sent_before_part : (from to round later : ℕ) → round ≤ later
      → (rest : List M) × (sent_before m setup epoch start from to later ≡ sent_before m setup epoch start from to round ++ rest)
  sent_before_part from to round zero within =
      let same : 0 ≡ round = omega arith in
      ([], ap (sent_before m setup epoch start from to) same ∙ sym (append-nil (sent_before m setup epoch start from to round)))
  sent_before_part from to round (suc later) within =
      by_order (cases_lt later round) (λ below. sent_before_part from to round later below)
    where
      by_order : (later < round) ⊎ (round ≤ later)
          → (round ≤ later → (rest : List M) × (sent_before m setup epoch start from to later ≡ sent_before m setup epoch start from to round ++ rest))
          → (rest : List M) × (sent_before m setup epoch start from to (suc later) ≡ sent_before m setup epoch start from to round ++ rest)
      by_order (inl above) before =
          let same : suc later ≡ round = omega arith in
          ([], ap (sent_before m setup epoch start from to) same ∙ sym (append-nil (sent_before m setup epoch start from to round)))
      by_order (inr below) before =
          let last : List M = sent_in m setup epoch start from to later (length (peers_at m setup epoch start from later)) in (
            (before below).0 ++ last,
            ap (λ xs. xs ++ last) (before below).1 ∙ append_assoc (sent_before m setup epoch start from to round) (before below).0 last,
          )

  -- what is sent up to a place in a round is a part of what is sent before a later one
  sent_early : (from to round count later : ℕ) → round < later
      → (rest : List M) × (sent_before m setup epoch start from to later
      ≡ (sent_before m setup epoch start from to round ++ sent_in m setup epoch start from to round count) ++ rest)
  sent_early from to round count later less =
      let before : List M = sent_before m setup epoch start from to round in
      let now : List M = sent_in m setup epoch start from to round count in
      let more : (rest : List M) × (sent_before m setup epoch start from to later ≡ sent_before m setup epoch start from to (suc round) ++ rest) =
      sent_before_part from to (suc round) later (omega arith) in
      let part : (rest : List M) × (sent_in m setup epoch start from to round (length (peers_at m setup epoch start from round)) ≡ now ++ rest) =
      sent_part from to round count in (
        part.0 ++ more.0,
        more.1 ∙ ap (λ xs. (before ++ xs) ++ more.0) part.1
            ∙ ap (λ xs. xs ++ more.0) (sym (append_assoc before now part.0))
            ∙ append_assoc (before ++ now) part.0 more.0,
      )

  -- what is sent before a later round begins with the messages of this one
  sent_late : (from to round later : ℕ) → round < later
      → (rest : List M) × (sent_before m setup epoch start from to later
      ≡ sent_before m setup epoch start from to round
      ++ (sent_in m setup epoch start from to round (length (peers_at m setup epoch start from round)) ++ rest))
  sent_late from to round later less =
      let before : List M = sent_before m setup epoch start from to round in
      let now : List M = sent_in m setup epoch start from to round (length (peers_at m setup epoch start from round)) in
      let more : (rest : List M) × (sent_before m setup epoch start from to later ≡ sent_before m setup epoch start from to (suc round) ++ rest) =
      sent_before_part from to (suc round) later (omega arith) in
      (more.0, more.1 ∙ append_assoc before now more.0)

  -- a rank that has sent once more
  pub received_after_send : (rank other : ℕ) (place : Place)
      → received_from m setup epoch start rank other (after_send place) ≡ received_from m setup epoch start rank other place
  unfolding received_from
  received_after_send rank other Past = refl
  received_after_send rank other (Rounds round sent received peers) = refl

  pub sent_after_send_elsewhere : (from to other : ℕ) (place : Place) → IsPlaced m setup epoch start from place → next_send place ≡ Some to → other ≢ to
      → sent_to m setup epoch start from other (after_send place) ≡ sent_to m setup epoch start from other place
  unfolding sent_to
  sent_after_send_elsewhere from to other Past placed sends differs = refl
  sent_after_send_elsewhere from to other (Rounds round sent received peers) placed sends differs =
      ap (λ xs. sent_before m setup epoch start from other round ++ xs)
      (sent_alike from other round (sent + 1) sent
      (others_stay (peers_at m setup epoch start from round) sent to other (ap (λ xs. slice_get xs sent) (sym placed.peers_are) ∙ sends) differs))

  -- a rank that has received once more: all its sends of the round were done
  pub sent_after_receive : (rank other peer : ℕ) (place : Place) → IsPlaced m setup epoch start rank place → next_receive place ≡ Some peer
      → sent_to m setup epoch start rank other (after_receive m setup epoch start rank place) ≡ sent_to m setup epoch start rank other place
  unfolding sent_to
  sent_after_receive rank other peer Past placed receives = refl
  sent_after_receive rank other peer (Rounds round sent received peers) placed receives = by_last (nat_lt (received + 1) (length peers))
    where
      all_sent : sent ≡ length (peers_at m setup epoch start rank round)
      all_sent = let whole : sent ≡ length peers = omega (arith, placed.sends, (receives_at m setup epoch start round sent received peer peers receives).0) in whole ∙ ap length placed.peers_are

      by_last : (b : Bool) → sent_to m setup epoch start rank other
          (if b then Rounds round sent (received + 1) peers else place_from m setup epoch start rank (m.rounds setup epoch - (round + 1)) (round + 1))
          ≡ sent_before m setup epoch start rank other round ++ sent_in m setup epoch start rank other round sent
      by_last true = refl
      by_last false =
          sent_at_from rank other (m.rounds setup epoch - (round + 1)) (round + 1) (omega (arith, placed.within))
          ∙ ap (sent_before m setup epoch start rank other) (add-one round)
          ∙ ap (λ n. sent_before m setup epoch start rank other round ++ sent_in m setup epoch start rank other round n) (sym all_sent)

  -- what has been received after a receive, told by the count
  received_on : (rank other peer : ℕ) (round sent received : ℕ) (peers : List ℕ) → IsInRound m setup epoch start rank round sent received peers
      → next_receive (Rounds round sent received peers) ≡ Some peer
      → received_from m setup epoch start rank other (after_receive m setup epoch start rank (Rounds round sent received peers))
      ≡ received_before m setup epoch start rank other round ++ received_in m setup epoch start rank other round (received + 1)
  unfolding received_from
  received_on rank other peer round sent received peers placed receives = by_last (nat_lt (received + 1) (length peers)) refl
    where
      by_last : (b : Bool) → nat_lt (received + 1) (length peers) ≡ b → received_from m setup epoch start rank other
          (if b then Rounds round sent (received + 1) peers else place_from m setup epoch start rank (m.rounds setup epoch - (round + 1)) (round + 1))
          ≡ received_before m setup epoch start rank other round ++ received_in m setup epoch start rank other round (received + 1)
      by_last true more = refl
      by_last false last =
          let whole : received + 1 ≡ length peers = omega (arith, placed.receives, ltb-false (received + 1) (length peers) last) in
          received_at_from rank other (m.rounds setup epoch - (round + 1)) (round + 1) (omega (arith, placed.within))
          ∙ ap (received_before m setup epoch start rank other) (add-one round)
          ∙ ap (λ n. received_before m setup epoch start rank other round ++ received_in m setup epoch start rank other round n)
          (sym (whole ∙ ap length placed.peers_are))

  pub received_after_receive_elsewhere : (rank other peer : ℕ) (place : Place) → IsPlaced m setup epoch start rank place → next_receive place ≡ Some peer → other ≢ peer
      → received_from m setup epoch start rank other (after_receive m setup epoch start rank place) ≡ received_from m setup epoch start rank other place
  unfolding received_from
  received_after_receive_elsewhere rank other peer Past placed receives differs = refl
  received_after_receive_elsewhere rank other peer (Rounds round sent received peers) placed receives differs =
      received_on rank other peer round sent received peers placed receives
      ∙ ap (λ xs. received_before m setup epoch start rank other round ++ xs)
      (received_alike rank other round (received + 1) received
      (others_stay (peers_at m setup epoch start rank round) received peer other
      (ap (λ xs. slice_get xs received) (sym placed.peers_are) ∙ (receives_at m setup epoch start round sent received peer peers receives).1) differs))

  -- a rank in its rounds has a next step
  pub has_next : (rank : ℕ) (place : Place) → IsPlaced m setup epoch start rank place
      → IsTrue (is_past place) ⊎ (IsTrue (is_some (next_send place)) ⊎ IsTrue (is_some (next_receive place)))
  has_next rank Past placed = inl refl
  has_next rank (Rounds round sent received peers) placed = by_sent (nat_lt sent (length peers)) refl
    where
      by_sent : (b : Bool) → nat_lt sent (length peers) ≡ b
          → IsTrue false ⊎ (IsTrue (is_some (slice_get peers sent)) ⊎ IsTrue (is_some (if b then None else slice_get peers received)))
      by_sent true more = inr (inl (ap is_some (slice_get-get_or peers sent 0 (ltb-true sent (length peers) more))))
      by_sent false all = inr (inr (ap is_some (slice_get-get_or peers received 0 placed.receives)))

  -- the message to a peer is one
  peer_message : (from to round : ℕ) → is_member (peers_at m setup epoch start from round) to ≡ true
      → (msg : M) × (message_at m setup epoch start from to round ≡ Some msg)
  peer_message from to round among =
      let its : (local : L) × (local_at m setup epoch start from round ≡ Some local) = with_peer m setup epoch start from to round among in
      (message m setup epoch round its.0 to, message_of from to round its.0 its.1)

  placed_peer : (rank peer round sent received count : ℕ) (all : List ℕ) → IsInRound m setup epoch start rank round sent received all
      → slice_get all count ≡ Some peer → slice_get (peers_at m setup epoch start rank round) count ≡ Some peer
  placed_peer rank peer round sent received count all placed at = ap (λ xs. slice_get xs count) (sym placed.peers_are) ∙ at

  -- to whom a rank sends next is a peer
  pub sends_to_peer : (rank to : ℕ) (place : Place) → IsPlaced m setup epoch start rank place → next_send place ≡ Some to
      → (round_of place < m.rounds setup epoch) × (is_member (peers_at m setup epoch start rank (round_of place)) to ≡ true)
  sends_to_peer rank to Past placed sends = absurd (cc)
  sends_to_peer rank to (Rounds round sent received all) placed sends =
      (placed.within, member_at _ sent to (placed_peer rank to round sent received sent all placed sends))

  -- from whom a rank receives next is a peer
  pub receives_from_peer : (rank peer : ℕ) (place : Place) → IsPlaced m setup epoch start rank place → next_receive place ≡ Some peer
      → (round_of place < m.rounds setup epoch) × (is_member (peers_at m setup epoch start rank (round_of place)) peer ≡ true)
  receives_from_peer rank peer Past placed receives = absurd (cc)
  receives_from_peer rank peer (Rounds round sent received all) placed receives = (
    placed.within,
    member_at _ received peer
        (placed_peer rank peer round sent received received all placed (receives_at m setup epoch start round sent received peer all receives).1),
  )

  -- where a sender stands against a round of the receiver, by what waits
  pub data Against (from to round : ℕ) (queue : List M) (its : Place) : Type 0 where
    Earlier : (its_round sent received : ℕ) (all : List ℕ) → its ≡ Rounds its_round sent received all → its_round < round → queue ≡ [] → Against from to round queue its
    Level : (sent received : ℕ) (all : List ℕ) → its ≡ Rounds round sent received all → IsInRound m setup epoch start from round sent received all
        → queue ≡ sent_in m setup epoch start from to round sent → Against from to round queue its
    Later : (rest : List M)
        → queue ≡ sent_in m setup epoch start from to round (length (peers_at m setup epoch start from round)) ++ rest → Against from to round queue its

module _ {S L M T R : Type 0} (m : Meanings S L M T R) (good : S → Epoch → ℕ → List L → Type 0) (setup : S)
    (goods : KeepsGood m good setup) (peers : KeepsPeers m good setup) (epoch : Epoch) (start : List L) (is_good : good setup epoch 0 start) where
  -- in a full round all that is sent is received
  pub full_round : (from to round : ℕ) → round < m.rounds setup epoch
      → sent_in m setup epoch start from to round (length (peers_at m setup epoch start from round))
      ≡ received_in m setup epoch start to from round (length (peers_at m setup epoch start to round))
  unfolding sent_in received_in
  full_round from to round within =
      ap (λ t. cond t (listed (message_at m setup epoch start from to round)) [])
      (all_peers m setup epoch start from to round
      ∙ peers_mutual m good setup goods peers epoch start is_good from to round within
      ∙ sym (all_peers m setup epoch start to from round))

  -- and so in all rounds before one
  pub full_before : (from to round : ℕ) → round ≤ m.rounds setup epoch
      → sent_before m setup epoch start from to round ≡ received_before m setup epoch start to from round
  full_before from to zero within = refl
  full_before from to (suc round) within =
      ap (λ xs. xs ++ sent_in m setup epoch start from to round (length (peers_at m setup epoch start from round)))
      (full_before from to round (omega arith))
      ∙ ap (λ xs. received_before m setup epoch start to from round ++ xs) (full_round from to round (omega arith))

  pub sent_after_send : (rank to : ℕ) (place : Place) → IsPlaced m setup epoch start rank place → next_send place ≡ Some to
      → sent_to m setup epoch start rank to (after_send place)
      ≡ sent_to m setup epoch start rank to place ++ listed (message_at m setup epoch start rank to (round_of place))
  unfolding sent_to
  sent_after_send rank to Past placed sends = absurd (cc)
  sent_after_send rank to (Rounds round sent received all) placed sends =
      let before : List M = sent_before m setup epoch start rank to round in
      let msg : List M = listed (message_at m setup epoch start rank to round) in
      let at : slice_get (peers_at m setup epoch start rank round) sent ≡ Some to = placed_peer m setup epoch start rank to round sent received sent all placed sends in
      let with_it : sent_in m setup epoch start rank to round (sent + 1) ≡ msg =
      sent_among m setup epoch start rank to round (sent + 1) (among_with _ sent to at) in
      let without : sent_in m setup epoch start rank to round sent ≡ [] =
      sent_not_among m setup epoch start rank to round sent
      (not_before _ sent to (peers_apart m good setup goods peers epoch start is_good rank round placed.within) at) in
      ap (λ xs. before ++ xs) with_it
      ∙ ap (λ xs. xs ++ msg) (sym (ap (λ xs. before ++ xs) without ∙ append-nil before))

  -- before the receive of a message, nothing of the round is received from its sender
  pub received_before_receive : (rank peer : ℕ) (place : Place) → IsPlaced m setup epoch start rank place → next_receive place ≡ Some peer
      → received_from m setup epoch start rank peer place ≡ received_before m setup epoch start rank peer (round_of place)
  unfolding received_from
  received_before_receive rank peer Past placed receives = absurd (cc)
  received_before_receive rank peer (Rounds round sent received all) placed receives =
      let before : List M = received_before m setup epoch start rank peer round in
      let at : slice_get (peers_at m setup epoch start rank round) received ≡ Some peer =
      placed_peer m setup epoch start rank peer round sent received received all placed (receives_at m setup epoch start round sent received peer all receives).1 in
      ap (λ xs. before ++ xs) (received_not_among m setup epoch start rank peer round received
      (not_before _ received peer (peers_apart m good setup goods peers epoch start is_good rank round placed.within) at))
      ∙ append-nil before

  pub received_after_receive : (rank peer : ℕ) (place : Place) → IsPlaced m setup epoch start rank place → next_receive place ≡ Some peer
      → received_from m setup epoch start rank peer (after_receive m setup epoch start rank place)
      ≡ received_from m setup epoch start rank peer place ++ listed (message_at m setup epoch start peer rank (round_of place))
  received_after_receive rank peer Past placed receives = absurd (cc)
  received_after_receive rank peer (Rounds round sent received all) placed receives =
      let msg : List M = listed (message_at m setup epoch start peer rank round) in
      let at : slice_get (peers_at m setup epoch start rank round) received ≡ Some peer =
      placed_peer m setup epoch start rank peer round sent received received all placed (receives_at m setup epoch start round sent received peer all receives).1 in
      received_on m setup epoch start rank peer peer round sent received all placed receives
      ∙ ap (λ xs. received_before m setup epoch start rank peer round ++ xs)
      (received_among m setup epoch start rank peer round (received + 1) (among_with _ received peer at))
      ∙ ap (λ xs. xs ++ msg) (sym (received_before_receive rank peer (Rounds round sent received all) placed receives))

  -- who waits for a message has received what was sent in the rounds before
  sent_so_far : (from to : ℕ) (place : Place) (queue all : List M) → IsPlaced m setup epoch start to place → next_receive place ≡ Some from
      → received_from m setup epoch start to from place ++ queue ≡ all
      → sent_before m setup epoch start from to (round_of place) ++ queue ≡ all
  sent_so_far from to place queue all placed receives holds =
      let within : round_of place < m.rounds setup epoch = (receives_from_peer m setup epoch start to from place placed receives).0 in
      ap (λ xs. xs ++ queue) (full_before from to (round_of place) (omega arith)
      ∙ sym (received_before_receive to from place placed receives))
      ∙ holds

  -- the sender of a message that is received next has the receiver for a peer
  is_peer_of : (from to : ℕ) (place : Place) → IsPlaced m setup epoch start to place → next_receive place ≡ Some from
      → is_member (peers_at m setup epoch start from (round_of place)) to ≡ true
  is_peer_of from to place placed receives =
      let its : (round_of place < m.rounds setup epoch) × (is_member (peers_at m setup epoch start to (round_of place)) from ≡ true) =
      receives_from_peer m setup epoch start to from place placed receives in
      peers_mutual m good setup goods peers epoch start is_good from to (round_of place) its.0 ∙ its.1

  -- and sends in the round the one message to it
  sent_full : (from to : ℕ) (place : Place) → IsPlaced m setup epoch start to place → next_receive place ≡ Some from
      → sent_in m setup epoch start from to (round_of place) (length (peers_at m setup epoch start from (round_of place)))
      ≡ listed (message_at m setup epoch start from to (round_of place))
  sent_full from to place placed receives =
      sent_among m setup epoch start from to (round_of place) _
      (all_peers m setup epoch start from to (round_of place) ∙ is_peer_of from to place placed receives)

  -- a sender in an earlier round has left nothing to receive
  nothing_early : (from to round count later : ℕ) (queue : List M) → round < later
      → sent_before m setup epoch start from to later ++ queue
      ≡ sent_before m setup epoch start from to round ++ sent_in m setup epoch start from to round count → queue ≡ []
  nothing_early from to round count later queue less holds =
      let here : List M = sent_before m setup epoch start from to round ++ sent_in m setup epoch start from to round count in
      let part : (rest : List M) × (sent_before m setup epoch start from to later ≡ here ++ rest) = sent_early m setup epoch start from to round count later less in
      by_lengths (sent_before m setup epoch start from to later) here part.0 part.1 holds
    where
      by_lengths : (before here rest : List M) → before ≡ here ++ rest → before ++ queue ≡ here → queue ≡ []
      by_lengths before here rest whole less =
          nil_from_length queue (omega (arith, ap length whole, ap length less, length-append here rest, length-append before queue))

  -- a sender in a later round has left the message of this one at the front
  something_late : (from to round later : ℕ) (queue more : List M) → round < later
      → sent_before m setup epoch start from to round ++ queue ≡ sent_before m setup epoch start from to later ++ more
      → (rest : List M) × (queue ≡ sent_in m setup epoch start from to round (length (peers_at m setup epoch start from round)) ++ rest)
  something_late from to round later queue more less holds =
      let before : List M = sent_before m setup epoch start from to round in
      let now : List M = sent_in m setup epoch start from to round (length (peers_at m setup epoch start from round)) in
      let part : (rest : List M) × (sent_before m setup epoch start from to later ≡ before ++ (now ++ rest)) = sent_late m setup epoch start from to round later less in (
        part.0 ++ more,
        append_cancel_left before queue (now ++ (part.0 ++ more))
            (holds ∙ ap (λ xs. xs ++ more) part.1 ∙ append_assoc before (now ++ part.0) more ∙ ap (λ xs. before ++ xs) (append_assoc now part.0 more)),
      )

  against_round : (from to round : ℕ) (its : Place) (queue : List M) → IsPlaced m setup epoch start from its → round < m.rounds setup epoch
      → sent_before m setup epoch start from to round ++ queue ≡ sent_to m setup epoch start from to its
      → Against m setup epoch start from to round queue its
  unfolding sent_to
  against_round from to round Past queue placed within holds =
      let late : (rest : List M) × (queue ≡ sent_in m setup epoch start from to round (length (peers_at m setup epoch start from round)) ++ rest) =
      something_late from to round (m.rounds setup epoch) queue [] within (holds ∙ sym (append-nil (sent_before m setup epoch start from to (m.rounds setup epoch)))) in
      Later late.0 late.1
  against_round from to round (Rounds its_round sent received all) queue placed within holds = elim (cases_order its_round round) [
    | inl same ↦
        let P : ℕ → Type 0 = λ n. sent_before m setup epoch start from to round ++ queue
        ≡ sent_before m setup epoch start from to n ++ sent_in m setup epoch start from to n sent in
        let Q : ℕ → Type 0 = λ n. IsInRound m setup epoch start from n sent received all in
        Level sent received all (ap (λ n. Rounds n sent received all) same) (subst Q same placed)
        (append_cancel_left (sent_before m setup epoch start from to round) queue (sent_in m setup epoch start from to round sent) (subst P same holds))
    | inr apart ↦ elim apart [
      | inl less ↦ Earlier its_round sent received all refl less (nothing_early from to its_round sent round queue less holds)
      | inr more ↦
          let late : (rest : List M) × (queue ≡ sent_in m setup epoch start from to round (length (peers_at m setup epoch start from round)) ++ rest) =
          something_late from to round its_round queue (sent_in m setup epoch start from to its_round sent) more holds in
          Later late.0 late.1
    ]
  ]

  against : (from to : ℕ) (its place : Place) (queue : List M) → IsPlaced m setup epoch start from its → IsPlaced m setup epoch start to place
      → next_receive place ≡ Some from → received_from m setup epoch start to from place ++ queue ≡ sent_to m setup epoch start from to its
      → Against m setup epoch start from to (round_of place) queue its
  against from to its place queue its_placed placed receives holds =
      against_round from to (round_of place) its queue its_placed (receives_from_peer m setup epoch start to from place placed receives).0
      (sent_so_far from to place queue (sent_to m setup epoch start from to its) placed receives holds)

  -- the message that waits at the front is that of the round
  pub front : (from to : ℕ) (its place : Place) (msg : M) (more : List M) → IsPlaced m setup epoch start from its → IsPlaced m setup epoch start to place
      → next_receive place ≡ Some from → received_from m setup epoch start to from place ++ (msg ∷ more) ≡ sent_to m setup epoch start from to its
      → message_at m setup epoch start from to (round_of place) ≡ Some msg
  front from to its place msg more its_placed placed receives holds = by_stand (against from to its place (msg ∷ more) its_placed placed receives holds)
    where
      sent : (known : M) × (message_at m setup epoch start from to (round_of place) ≡ Some known)
      sent = peer_message m setup epoch start from to (round_of place) (is_peer_of from to place placed receives)

      -- the message of the round begins the queue
      first : (rest : List M) → msg ∷ more ≡ listed (message_at m setup epoch start from to (round_of place)) ++ rest
          → message_at m setup epoch start from to (round_of place) ≡ Some msg
      first rest begins =
          let same : msg ≡ sent.0 = ap (head_or msg) (begins ∙ ap (λ o. listed o ++ rest) sent.1) in
          sent.1 ∙ ap Some (sym same)

      by_test : (count : ℕ) (b : Bool) → is_member (take count (peers_at m setup epoch start from (round_of place))) to ≡ b
          → msg ∷ more ≡ sent_in m setup epoch start from to (round_of place) count
          → message_at m setup epoch start from to (round_of place) ≡ Some msg
      by_test count true among is =
          first [] (is ∙ sent_among m setup epoch start from to (round_of place) count among ∙ sym (append-nil (listed (message_at m setup epoch start from to (round_of place)))))
      by_test count false without is =
          let none : msg ∷ more ≡ [] = is ∙ sent_not_among m setup epoch start from to (round_of place) count without in absurd (cc)

      by_stand : Against m setup epoch start from to (round_of place) (msg ∷ more) its
          → message_at m setup epoch start from to (round_of place) ≡ Some msg
      by_stand (Earlier its_round count received all its_is less none) = absurd (cc)
      by_stand (Level count received all its_is in_round is) = by_test count _ refl is
      by_stand (Later rest is) = first rest (is ∙ ap (λ xs. xs ++ rest) (sent_full from to place placed receives))

  -- where nothing waits, the sender is behind
  pub behind : (from to : ℕ) (its place : Place) → IsPlaced m setup epoch start from its → IsPlaced m setup epoch start to place
      → next_receive place ≡ Some from → received_from m setup epoch start to from place ≡ sent_to m setup epoch start from to its → IsBehind its place
  behind from to its Past its_placed placed receives holds = absurd (cc)
  behind from to its (Rounds round sent received all) its_placed placed receives holds =
      by_stand (against from to its (Rounds round sent received all) [] its_placed placed receives
      (append-nil (received_from m setup epoch start to from (Rounds round sent received all)) ∙ holds))
    where
      among : is_member (peers_at m setup epoch start from round) to ≡ true
      among = is_peer_of from to (Rounds round sent received all) placed receives

      known : (msg : M) × (message_at m setup epoch start from to round ≡ Some msg)
      known = peer_message m setup epoch start from to round among

      -- it has not sent to all peers of the round
      some_left : (count : ℕ) (its_peers : List ℕ) → its_peers ≡ peers_at m setup epoch start from round
          → [] ≡ sent_in m setup epoch start from to round count → is_some (slice_get its_peers count) ≡ true
      some_left count its_peers are none = elim (cases_lt count (length its_peers)) [
        | inl less ↦ ap is_some (slice_get-get_or its_peers count 0 less)
        | inr whole ↦
            let everyone : take count (peers_at m setup epoch start from round) ≡ peers_at m setup epoch start from round =
            take_all count (peers_at m setup epoch start from round) (omega (arith, whole, ap length are)) in
            let one : [] ≡ known.0 ∷ [] =
            none ∙ sent_among m setup epoch start from to round count (ap (λ xs. is_member xs to) everyone ∙ among) ∙ ap listed known.1 in
            absurd (cc)
      ]

      by_stand : Against m setup epoch start from to round [] its → IsBehind its (Rounds round sent received all)
      by_stand (Earlier its_round count its_received its_peers its_is less none) =
          let P : Place → Type 0 = λ p. IsBehind p (Rounds round sent received all) in
          subst P (sym its_is) (inl less)
      by_stand (Level count its_received its_peers its_is in_round is) =
          let P : Place → Type 0 = λ p. IsBehind p (Rounds round sent received all) in
          subst P (sym its_is) (inr (refl, some_left count its_peers in_round.peers_are is))
      by_stand (Later rest is) =
          let one : [] ≡ known.0 ∷ rest =
          is ∙ ap (λ xs. xs ++ rest) (sent_full from to (Rounds round sent received all) placed receives) ∙ ap (λ o. listed o ++ rest) known.1 in
          absurd (cc)
