-- The queues of a run hold the messages of the lockstep after each event.
use Rattle.std.proofs.Common.{◌≡◌, ◌≢◌, ℕ, ◌<◌, List, [], ◌∷◌, ◌++◌, drop, length, slice_set, append_assoc, zero-add, arith, refl, sym, subst, ◌∙◌, ap, inl, inr}
use Rattle.std.specs.Prelude.{◌⊎◌, Some, slice_get}
use Rattle.std.proofs.Math.ListN.{get_or}
use Rattle.std.proofs.lemmas.Bool.{cases_eq}
use Rattle.std.proofs.lemmas.List.{get_or-set_same, get_or-set_other, append-nil}
use Rattle.std.proofs.lemmas.Option.{same_Some}
use Rattle.std.proofs.lemmas.List.FromFn.{get_or-map-range_with_len}
use Rattle.bf_program.specs.declared.epoch.Epoch.{Epoch}
use Rattle.bf_program.specs.Meanings.{Meanings}
use Rattle.bf_program.specs.Laws.{KeepsGood, KeepsPeers}
use Rattle.bf_core.specs.declared.event.Event.TheVariants.{Send, Recv, Arrive, Leave, Die}
use Rattle.bf_core.specs.declared.event.How.{How}
use Rattle.bf_core.specs.declared.place.Place.{Place}
use Rattle.bf_core.specs.declared.place.Place.TheVariants.{Past}
use Rattle.bf_core.specs.Places.{next_send, next_receive, round_of}
use Rattle.bf_core.specs.Orders.{IsBehind}
use Rattle.bf_core.specs.States.{State, channel}
use Rattle.bf_world.specs.Course.{message_at, first_place, after_send, after_receive}
use Rattle.bf_world.specs.Messages.{listed, sent_to, received_from, HoldsMessages}
use Rattle.bf_world.specs.Queues.{Waiting, messages, with_messages, no_messages, IsSquare}
use Rattle.bf_world.specs.Runs.{Run, place, begun, first_places, run_happened}
use Rattle.bf_world.proofs.PlaceLemmas.{IsPlaced}
use Rattle.bf_world.proofs.QueueLemmas.{channel_below, messages_here, messages_elsewhere, messages_of_none}
use Rattle.bf_world.proofs.MessageLemmas.{sent_at_first, received_at_first, received_after_send, sent_after_send, sent_after_send_elsewhere, sent_after_receive, received_after_receive, received_after_receive_elsewhere, front, behind}

-- whether a pair of ranks is another
two_cases : (a b from to : ℕ) → ((a ≡ from) × (b ≡ to)) ⊎ (a ≡ from → b ≡ to → ⊥)
two_cases a b from to = elim (cases_eq a from) [
  | inl e ↦ elim (cases_eq b to) [ inl f ↦ inl (e, f) | inr g ↦ inr (λ _ same. g same) ]
  | inr g ↦ inr (λ same _. g same)
]

-- what is told of each two ranks is told again, where it changes for two of them only
told_again : {X : Type 0} (ranks from to : ℕ) (received received_then waits waits_then sent sent_then : (from to : ℕ) → List X)
    → ((a b : ℕ) → a < ranks → b < ranks → received a b ++ waits a b ≡ sent a b)
    → ((a b : ℕ) → (a ≡ from → b ≡ to → ⊥) → received_then a b ≡ received a b)
    → ((a b : ℕ) → a < ranks → b < ranks → (a ≡ from → b ≡ to → ⊥) → waits_then a b ≡ waits a b)
    → ((a b : ℕ) → (a ≡ from → b ≡ to → ⊥) → sent_then a b ≡ sent a b)
    → received_then from to ++ waits_then from to ≡ sent_then from to
    → (a b : ℕ) → a < ranks → b < ranks → received_then a b ++ waits_then a b ≡ sent_then a b
told_again ranks from to received received_then waits waits_then sent sent_then holds received_same waits_same sent_same its a b ha hb =
    elim (two_cases a b from to) [
      | inl e ↦
          let P : ℕ → Type 0 = λ x. received_then x b ++ waits_then x b ≡ sent_then x b in
          let Q : ℕ → Type 0 = λ y. received_then from y ++ waits_then from y ≡ sent_then from y in
          subst P (sym e.0) (subst Q (sym e.1) its)
      | inr apart ↦
          ap (λ xs. xs ++ waits_then a b) (received_same a b apart)
          ∙ ap (λ xs. received a b ++ xs) (waits_same a b ha hb apart)
          ∙ holds a b ha hb ∙ sym (sent_same a b apart)
    ]

-- the front of a list, and the rest
pub first_and_rest : {X : Type 0} (xs : List X) (x : X) → slice_get xs 0 ≡ Some x → xs ≡ x ∷ drop 1 xs
first_and_rest [] x none = absurd (cc)
first_and_rest (y ∷ ys) x first = ap (λ z. z ∷ ys) (same_Some y x first)

module _ {S L M T R : Type 0} (m : Meanings S L M T R) (setup : S) where
  pub arrived_holds : (run : Run L T) (waiting : Waiting M) (rank : ℕ) (how : How) → HoldsMessages m setup run waiting
      → HoldsMessages m setup (run_happened m setup run (Arrive rank how)) waiting
  arrived_holds run waiting rank how held = record { holds = held.holds }

  pub left_holds : (run : Run L T) (waiting : Waiting M) (rank : ℕ) → HoldsMessages m setup run waiting
      → HoldsMessages m setup (run_happened m setup run (Leave rank)) waiting
  left_holds run waiting rank held = record { holds = held.holds }

  pub died_holds : (run : Run L T) (waiting : Waiting M) (rank : ℕ) → HoldsMessages m setup run waiting
      → HoldsMessages m setup (run_happened m setup run (Die rank)) waiting
  died_holds run waiting rank held = record { holds = held.holds }

  -- where each rank begins
  pub begins_at : (core : State) (start : List L) (parcels : List (ℕ × T)) (rank : ℕ) → rank < m.ranks setup
      → place (begun m setup core start parcels) rank ≡ first_place m setup core.epoch start rank
  unfolding first_places
  begins_at core start parcels rank within =
      get_or-map-range_with_len (first_place m setup core.epoch start) 0 (m.ranks setup) rank rank Past within (zero-add rank)

  -- at the beginning of an epoch nothing waits
  pub begun_holds : (core : State) (start : List L) (parcels : List (ℕ × T)) (ranks : ℕ) → ranks ≡ m.ranks setup
      → HoldsMessages m setup (begun m setup core start parcels) (no_messages ranks)
  begun_holds core start parcels ranks same = record {
    holds = λ from to hf ht.
        ap (λ p. received_from m setup core.epoch start to from p ++ messages {M = M} (no_messages ranks) from to) (begins_at core start parcels to (omega (arith, ht, same)))
        ∙ ap (λ xs. xs ++ messages {M = M} (no_messages ranks) from to) (received_at_first m setup core.epoch start to from)
        ∙ messages_of_none M ranks from to hf ht
        ∙ sym (ap (sent_to m setup core.epoch start from to) (begins_at core start parcels from (omega (arith, hf, same))) ∙ sent_at_first m setup core.epoch start from to);
  }

module _ {S L M T R : Type 0} (m : Meanings S L M T R) (good : S → Epoch → ℕ → List L → Type 0) (setup : S)
    (goods : KeepsGood m good setup) (peers : KeepsPeers m good setup) (run : Run L T) (waiting : Waiting M)
    (is_good : good setup run.core.epoch 0 run.start)
    (placed : (rank : ℕ) → IsPlaced m setup run.core.epoch run.start rank (place run rank))
    (held : HoldsMessages m setup run waiting) where
  in_list : (from to : ℕ) → from < waiting.ranks → to < waiting.ranks → IsSquare waiting → channel waiting.ranks from to < length waiting.queues
  in_list from to hf ht square =
      let P : ℕ → Type 0 = λ n. channel waiting.ranks from to < n in
      subst P (sym square) (channel_below waiting.ranks from to hf ht)

  -- another rank stands elsewhere
  place_there : (rank other : ℕ) (to : Place) → other ≢ rank → get_or (slice_set run.places rank to) other Past ≡ place run other
  place_there rank other to differs = get_or-set_other run.places rank other to Past differs

  place_here : (rank : ℕ) (to : Place) → rank < length run.places → get_or (slice_set run.places rank to) rank Past ≡ to
  place_here rank to within = get_or-set_same run.places rank to Past within

  -- what is told of a rank at its place, where one rank stands elsewhere
  told_of : (told : ℕ → Place → List M) (rank other : ℕ) (to : Place) → rank < length run.places
      → (other ≡ rank → told rank to ≡ told rank (place run rank))
      → told other (get_or (slice_set run.places rank to) other Past) ≡ told other (place run other)
  told_of told rank other to within same = elim (cases_eq other rank) [
    | inl e ↦
        let P : ℕ → Type 0 = λ r. told r (get_or (slice_set run.places rank to) r Past) ≡ told r (place run r) in
        subst P (sym e) (ap (told rank) (place_here rank to within) ∙ same e)
    | inr differs ↦ ap (told other) (place_there rank other to differs)
  ]

  -- a message is sent
  pub sent_holds : (rank to blocks sum : ℕ) (msg : M) → next_send (place run rank) ≡ Some to
      → rank < length run.places → rank < waiting.ranks → to < waiting.ranks → IsSquare waiting
      → message_at m setup run.core.epoch run.start rank to (round_of (place run rank)) ≡ Some msg
      → HoldsMessages m setup (run_happened m setup run (Send rank to blocks sum)) (with_messages waiting rank to (messages waiting rank to ++ msg ∷ []))
  sent_holds rank to blocks sum msg sends in_places hr ht square is =
      let there : Place = after_send (place run rank) in
      let queue : List M = messages waiting rank to in
      let others : List M = queue ++ msg ∷ [] in
      let received_same : (a b : ℕ) → received_from m setup run.core.epoch run.start b a (get_or (slice_set run.places rank there) b Past)
      ≡ received_from m setup run.core.epoch run.start b a (place run b) =
      λ a b. told_of (λ r. received_from m setup run.core.epoch run.start r a) rank b there in_places
      (λ _. received_after_send m setup run.core.epoch run.start rank a (place run rank)) in
      let sent_same : (a b : ℕ) → (a ≡ rank → b ≡ to → ⊥) → sent_to m setup run.core.epoch run.start a b (get_or (slice_set run.places rank there) a Past)
      ≡ sent_to m setup run.core.epoch run.start a b (place run a) =
      λ a b apart. told_of (λ r. sent_to m setup run.core.epoch run.start r b) rank a there in_places
      (λ e. sent_after_send_elsewhere m setup run.core.epoch run.start rank to b (place run rank) (placed rank) sends (apart e)) in
      let before : List M = sent_to m setup run.core.epoch run.start rank to (place run rank) in
      let sent_here : sent_to m setup run.core.epoch run.start rank to (get_or (slice_set run.places rank there) rank Past) ≡ before ++ msg ∷ [] =
      ap (sent_to m setup run.core.epoch run.start rank to) (place_here rank there in_places)
      ∙ sent_after_send m good setup goods peers run.core.epoch run.start is_good rank to (place run rank) (placed rank) sends
      ∙ ap (λ o. before ++ listed o) is in
      let old : List M = received_from m setup run.core.epoch run.start to rank (place run to) in
      record {
        holds = told_again waiting.ranks rank to
            (λ a b. received_from m setup run.core.epoch run.start b a (place run b))
            (λ a b. received_from m setup run.core.epoch run.start b a (get_or (slice_set run.places rank there) b Past))
            (messages waiting)
            (messages (with_messages waiting rank to others))
            (λ a b. sent_to m setup run.core.epoch run.start a b (place run a))
            (λ a b. sent_to m setup run.core.epoch run.start a b (get_or (slice_set run.places rank there) a Past))
            held.holds
            (λ a b _. received_same a b)
            (messages_elsewhere waiting (with_messages waiting rank to others) rank to others ht refl)
            sent_same
            (ap (λ xs. xs ++ messages (with_messages waiting rank to others) rank to) (received_same rank to)
            ∙ ap (λ xs. old ++ xs)
            (messages_here waiting (with_messages waiting rank to others) rank to others (channel waiting.ranks rank to) refl (in_list rank to hr ht square) refl)
            ∙ sym (append_assoc old queue (msg ∷ []))
            ∙ ap (λ xs. xs ++ msg ∷ []) (held.holds rank to hr ht)
            ∙ sym sent_here);
      }

  -- the message that waits for a rank is that of its round
  pub front_waits : (rank peer : ℕ) (msg : M) → next_receive (place run rank) ≡ Some peer → rank < waiting.ranks → peer < waiting.ranks
      → slice_get (messages waiting peer rank) 0 ≡ Some msg
      → message_at m setup run.core.epoch run.start peer rank (round_of (place run rank)) ≡ Some msg
  front_waits rank peer msg receives hr hp first =
      front m good setup goods peers run.core.epoch run.start is_good peer rank (place run peer) (place run rank) msg (drop 1 (messages waiting peer rank))
      (placed peer) (placed rank) receives
      (ap (λ xs. received_from m setup run.core.epoch run.start rank peer (place run rank) ++ xs) (sym (first_and_rest (messages waiting peer rank) msg first))
      ∙ held.holds peer rank hp hr)

  -- where no message waits for a rank, the sender is behind
  pub sender_behind : (rank peer : ℕ) → next_receive (place run rank) ≡ Some peer → rank < waiting.ranks → peer < waiting.ranks
      → messages waiting peer rank ≡ [] → IsBehind (place run peer) (place run rank)
  sender_behind rank peer receives hr hp none =
      behind m good setup goods peers run.core.epoch run.start is_good peer rank (place run peer) (place run rank) (placed peer) (placed rank) receives
      (sym (append-nil (received_from m setup run.core.epoch run.start rank peer (place run rank)))
      ∙ ap (λ xs. received_from m setup run.core.epoch run.start rank peer (place run rank) ++ xs) (sym none)
      ∙ held.holds peer rank hp hr)

  -- a message is received
  pub received_holds : (rank peer : ℕ) (msg : M) → next_receive (place run rank) ≡ Some peer
      → rank < length run.places → rank < waiting.ranks → peer < waiting.ranks → IsSquare waiting
      → slice_get (messages waiting peer rank) 0 ≡ Some msg
      → HoldsMessages m setup (run_happened m setup run (Recv rank peer)) (with_messages waiting peer rank (drop 1 (messages waiting peer rank)))
  received_holds rank peer msg receives in_places hr hp square first =
      let there : Place = after_receive m setup run.core.epoch run.start rank (place run rank) in
      let others : List M = drop 1 (messages waiting peer rank) in
      let received_same : (a b : ℕ) → (a ≡ peer → b ≡ rank → ⊥) → received_from m setup run.core.epoch run.start b a (get_or (slice_set run.places rank there) b Past)
      ≡ received_from m setup run.core.epoch run.start b a (place run b) =
      λ a b apart. told_of (λ r. received_from m setup run.core.epoch run.start r a) rank b there in_places
      (λ e. received_after_receive_elsewhere m setup run.core.epoch run.start rank a peer (place run rank) (placed rank) receives (λ f. apart f e)) in
      let sent_same : (a b : ℕ) → sent_to m setup run.core.epoch run.start a b (get_or (slice_set run.places rank there) a Past)
      ≡ sent_to m setup run.core.epoch run.start a b (place run a) =
      λ a b. told_of (λ r. sent_to m setup run.core.epoch run.start r b) rank a there in_places
      (λ _. sent_after_receive m setup run.core.epoch run.start rank b peer (place run rank) (placed rank) receives) in
      let before : List M = received_from m setup run.core.epoch run.start rank peer (place run rank) in
      let received_here : received_from m setup run.core.epoch run.start rank peer (get_or (slice_set run.places rank there) rank Past) ≡ before ++ msg ∷ [] =
      ap (received_from m setup run.core.epoch run.start rank peer) (place_here rank there in_places)
      ∙ received_after_receive m good setup goods peers run.core.epoch run.start is_good rank peer (place run rank) (placed rank) receives
      ∙ ap (λ o. before ++ listed o) (front_waits rank peer msg receives hr hp first) in
      record {
        holds = told_again waiting.ranks peer rank
            (λ a b. received_from m setup run.core.epoch run.start b a (place run b))
            (λ a b. received_from m setup run.core.epoch run.start b a (get_or (slice_set run.places rank there) b Past))
            (messages waiting)
            (messages (with_messages waiting peer rank others))
            (λ a b. sent_to m setup run.core.epoch run.start a b (place run a))
            (λ a b. sent_to m setup run.core.epoch run.start a b (get_or (slice_set run.places rank there) a Past))
            held.holds
            received_same
            (messages_elsewhere waiting (with_messages waiting peer rank others) peer rank others hr refl)
            (λ a b _. sent_same a b)
            (ap (λ xs. xs ++ messages (with_messages waiting peer rank others) peer rank) received_here
            ∙ ap (λ xs. (before ++ msg ∷ []) ++ xs)
            (messages_here waiting (with_messages waiting peer rank others) peer rank others (channel waiting.ranks peer rank) refl (in_list peer rank hp hr square) refl)
            ∙ append_assoc before (msg ∷ []) others
            ∙ ap (λ xs. before ++ xs) (sym (first_and_rest (messages waiting peer rank) msg first))
            ∙ held.holds peer rank hp hr
            ∙ sym (sent_same peer rank));
      }
