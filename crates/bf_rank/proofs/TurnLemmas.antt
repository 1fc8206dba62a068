-- What a rank's account gives for each step of a turn.
use Rattle.std.proofs.Common.{◌≡◌, ◌≢◌, ℕ, ◌+◌, ◌<◌, ◌≤◌, Bool, true, false, cond, List, [], ◌∷◌, length, nat_lt, arith, refl, sym, subst, ◌∙◌, ap}
use Rattle.std.specs.Prelude.{Option, Some, None, slice_get}
use Rattle.std.proofs.lemmas.Bool.{ltb-false, lt-ltb, le-ltb}
use Rattle.std.proofs.lemmas.Option.{slice_get_within, same_Some}
use Rattle.bf_program.specs.declared.epoch.Epoch.{Epoch}
use Rattle.bf_program.specs.Meanings.{Meanings}
use Rattle.bf_program.specs.Lockstep.{after_sends, message, after_receives, lockstep}
use Rattle.bf_program.specs.Laws.{KeepsGood, KeepsPeers}
use Rattle.bf_program.specs.Points.{IsFirst, IsSending, IsReceiving, IsFinishing}
use Rattle.bf_core.specs.declared.place.Place.TheVariants.{Rounds}
use Rattle.bf_core.specs.Places.{next_receive}
use Rattle.bf_world.specs.Course.{local_at, peers_at, message_at, message_with}
use Rattle.bf_world.proofs.MemberLemmas.{Apart}
use Rattle.bf_world.proofs.PlaceLemmas.{IsInRound, receives_at}
use Rattle.bf_world.proofs.PeerLemmas.{peers_of, peers_apart}
use Rattle.bf_world.proofs.MessageLemmas.{message_of}
use Rattle.bf_rank.specs.Ranks.{Sight, IsLocalAt}
use Rattle.bf_world.proofs.StepLemmas.{is_first, sending, receiving, finishing, sends_more, message_next, receives_more, receives_none, next_local}

module _ {S L M T R : Type 0} (m : Meanings S L M T R) (good : S → Epoch → ℕ → List L → Type 0) (setup : S) (goods : KeepsGood m good setup) (peers_kept : KeepsPeers m good setup)
    (seen : Sight L) (is_good : good setup seen.epoch 0 seen.start) (rank : ℕ) where
  -- the local at a place in a round before all is sent
  sent_local : (round sent received : ℕ) (peers : List ℕ) (local : L) (here : IsLocalAt m good setup seen rank (Rounds round sent received peers) local) → sent < length peers
      → local ≡ after_sends m setup seen.epoch round here.first sent
  sent_local round sent received peers local here less =
      here.here ∙ ap (λ b. cond b (after_sends m setup seen.epoch round here.first sent)
      (after_receives m setup seen.epoch round (lockstep m setup seen.epoch seen.start round) rank here.first received)) (lt-ltb sent (length peers) less)

  -- and after
  received_local : (round sent received : ℕ) (peers : List ℕ) (local : L) (here : IsLocalAt m good setup seen rank (Rounds round sent received peers) local) → length peers ≤ sent
      → local ≡ after_receives m setup seen.epoch round (lockstep m setup seen.epoch seen.start round) rank here.first received
  received_local round sent received peers local here all =
      here.here ∙ ap (λ b. cond b (after_sends m setup seen.epoch round here.first sent)
      (after_receives m setup seen.epoch round (lockstep m setup seen.epoch seen.start round) rank here.first received)) (le-ltb sent (length peers) all)

  -- a rank whose next step is a send may make its message, which is the lockstep's, and stands at its next place then
  pub record MaySend (round sent received : ℕ) (peers : List ℕ) (to : ℕ) (local : L) : Type 0 where
    pub point : IsSending m good setup seen.epoch round to local
    pub its : message_at m setup seen.epoch seen.start rank to round ≡ Some (m.out setup local seen.epoch round to).1
    pub next : IsLocalAt m good setup seen rank (Rounds round (sent + 1) received peers) (m.out setup local seen.epoch round to).0

  pub may_send : (round sent received : ℕ) (peers : List ℕ) (to : ℕ) (local : L) → IsInRound m setup seen.epoch seen.start rank round sent received peers
      → IsLocalAt m good setup seen rank (Rounds round sent received peers) local → slice_get peers sent ≡ Some to → MaySend round sent received peers to local
  may_send round sent received peers to local placed here next = record {
    point = sending m good setup seen.epoch seen.start is_good rank round sent to here.first local placed.within here.its is_sent next_at;
    its = message_of m setup seen.epoch seen.start rank to round here.first here.its
        ∙ ap Some (message_next m setup seen.epoch round sent to here.first apart next_at ∙ ap (λ l. (m.out setup l seen.epoch round to).1) (sym is_sent));
    next = record {
      first = here.first;
      its = here.its;
      here = ap (λ l. (m.out setup l seen.epoch round to).0) is_sent ∙ sym (sends_more m setup seen.epoch round sent to here.first next_at) ∙ by_last (nat_lt (sent + 1) (length peers)) refl;
    };
  }
    where
      peers_are : peers ≡ m.peers setup here.first seen.epoch round
      peers_are = placed.peers_are ∙ peers_of m setup seen.epoch seen.start rank round here.first here.its

      within : sent < length peers
      within = slice_get_within peers sent to next

      is_sent : local ≡ after_sends m setup seen.epoch round here.first sent
      is_sent = sent_local round sent received peers local here within

      next_at : slice_get (m.peers setup here.first seen.epoch round) sent ≡ Some to
      next_at = ap (λ xs. slice_get xs sent) (sym peers_are) ∙ next

      apart : Apart (m.peers setup here.first seen.epoch round)
      apart = subst Apart (sym placed.peers_are ∙ peers_are) (peers_apart m good setup goods peers_kept seen.epoch seen.start is_good rank round placed.within)

      by_last : (b : Bool) → nat_lt (sent + 1) (length peers) ≡ b
          → after_sends m setup seen.epoch round here.first (sent + 1)
          ≡ cond b (after_sends m setup seen.epoch round here.first (sent + 1))
          (after_receives m setup seen.epoch round (lockstep m setup seen.epoch seen.start round) rank here.first received)
      by_last true more = refl
      by_last false last =
          let all : sent + 1 ≡ length (m.peers setup here.first seen.epoch round) = let e : length peers ≡ length (m.peers setup here.first seen.epoch round) = ap length peers_are in omega (arith, ltb-false (sent + 1) (length peers) last, within, e) in
          ap (after_sends m setup seen.epoch round here.first) all
          ∙ sym (receives_none m setup seen.epoch round (lockstep m setup seen.epoch seen.start round) rank here.first)
          ∙ ap (after_receives m setup seen.epoch round (lockstep m setup seen.epoch seen.start round) rank here.first) (sym (placed.in_turn within))

  -- a rank whose next step is a receive may take the lockstep's message; then it stands at its next place, or may finish the round
  pub record MayTake (round sent received : ℕ) (peers : List ℕ) (peer : ℕ) (msg : M) (local : L) : Type 0 where
    pub point : IsReceiving m good setup seen.epoch round peer msg local
    pub next : received + 1 < length peers → IsLocalAt m good setup seen rank (Rounds round sent (received + 1) peers) (m.take setup local seen.epoch round peer msg)
    pub finish : length peers ≤ received + 1 → IsFinishing m good setup seen.epoch round (m.take setup local seen.epoch round peer msg)
    pub after : length peers ≤ received + 1
        → local_at m setup seen.epoch seen.start rank (round + 1) ≡ Some (m.finish setup (m.take setup local seen.epoch round peer msg) seen.epoch round)

  -- the sender of a message, and its message
  sender_of : (from to round : ℕ) (msg : M) → message_at m setup seen.epoch seen.start from to round ≡ Some msg
      → (sender : L) × ((local_at m setup seen.epoch seen.start from round ≡ Some sender) × (msg ≡ message m setup seen.epoch round sender to))
  unfolding message_at
  sender_of from to round msg its = by_local (local_at m setup seen.epoch seen.start from round) refl its
    where
      by_local : (o : Option L) → local_at m setup seen.epoch seen.start from round ≡ o → message_with m setup seen.epoch seen.start round to o ≡ Some msg
          → (sender : L) × ((local_at m setup seen.epoch seen.start from round ≡ Some sender) × (msg ≡ message m setup seen.epoch round sender to))
      by_local (Some sender) found same = (sender, (found, sym (same_Some (message m setup seen.epoch round sender to) msg same)))
      by_local None none lacks = absurd (cc)

  pub may_take : (round sent received : ℕ) (peers : List ℕ) (peer : ℕ) (msg : M) (local : L) → IsInRound m setup seen.epoch seen.start rank round sent received peers
      → IsLocalAt m good setup seen rank (Rounds round sent received peers) local → next_receive (Rounds round sent received peers) ≡ Some peer
      → message_at m setup seen.epoch seen.start peer rank round ≡ Some msg → MayTake round sent received peers peer msg local
  may_take round sent received peers peer msg local placed here next is_message = record {
    point = receiving m good setup seen.epoch seen.start is_good rank peer round received here.first local from.0 msg placed.within here.its is_received next_at from.1.0 from.1.1;
    next = λ more. record {
      first = here.first;
      its = here.its;
      here = taken ∙ sym (ap (λ b. cond b (after_sends m setup seen.epoch round here.first sent)
          (after_receives m setup seen.epoch round (lockstep m setup seen.epoch seen.start round) rank here.first (received + 1))) (le-ltb sent (length peers) at.0));
    };
    finish = λ last. finishing m good setup seen.epoch seen.start is_good rank round here.first _ placed.within here.its
        (taken ∙ ap (after_receives m setup seen.epoch round (lockstep m setup seen.epoch seen.start round) rank here.first) (all last));
    after = λ last. next_local m setup seen.epoch seen.start rank round here.first here.its
        ∙ ap (λ l. Some (m.finish setup l seen.epoch round))
        (sym (taken ∙ ap (after_receives m setup seen.epoch round (lockstep m setup seen.epoch seen.start round) rank here.first) (all last)));
  }
    where
      peers_are : peers ≡ m.peers setup here.first seen.epoch round
      peers_are = placed.peers_are ∙ peers_of m setup seen.epoch seen.start rank round here.first here.its

      at : (length peers ≤ sent) × (slice_get peers received ≡ Some peer)
      at = receives_at m setup seen.epoch seen.start round sent received peer peers next

      is_received : local ≡ after_receives m setup seen.epoch round (lockstep m setup seen.epoch seen.start round) rank here.first received
      is_received = received_local round sent received peers local here at.0

      next_at : slice_get (m.peers setup here.first seen.epoch round) received ≡ Some peer
      next_at = ap (λ xs. slice_get xs received) (sym peers_are) ∙ at.1

      from : (sender : L) × ((local_at m setup seen.epoch seen.start peer round ≡ Some sender) × (msg ≡ message m setup seen.epoch round sender rank))
      from = sender_of peer rank round msg is_message

      taken : m.take setup local seen.epoch round peer msg ≡ after_receives m setup seen.epoch round (lockstep m setup seen.epoch seen.start round) rank here.first (received + 1)
      taken = ap (λ l. m.take setup l seen.epoch round peer msg) is_received
          ∙ ap (m.take setup (after_receives m setup seen.epoch round (lockstep m setup seen.epoch seen.start round) rank here.first received) seen.epoch round peer) from.1.1
          ∙ sym (receives_more m setup seen.epoch round (lockstep m setup seen.epoch seen.start round) rank received peer here.first from.0 next_at from.1.0)

      all : length peers ≤ received + 1 → received + 1 ≡ length (m.peers setup here.first seen.epoch round)
      all last = let e : length peers ≡ length (m.peers setup here.first seen.epoch round) = ap length peers_are in omega (arith, last, placed.receives, e)

  -- at the beginning of a round a rank may ask for its peers; where it has none it may finish
  pub record MayPass (round : ℕ) (local : L) : Type 0 where
    pub point : IsFirst m good setup seen.epoch round local
    pub peers_are : peers_at m setup seen.epoch seen.start rank round ≡ m.peers setup local seen.epoch round
    pub finish : m.peers setup local seen.epoch round ≡ [] → IsFinishing m good setup seen.epoch round local
    pub after : m.peers setup local seen.epoch round ≡ [] → local_at m setup seen.epoch seen.start rank (round + 1) ≡ Some (m.finish setup local seen.epoch round)
    pub stays : m.peers setup local seen.epoch round ≢ [] → IsLocalAt m good setup seen rank (Rounds round 0 0 (m.peers setup local seen.epoch round)) local

  pub may_pass : (round : ℕ) (local : L) → round < m.rounds setup seen.epoch → local_at m setup seen.epoch seen.start rank round ≡ Some local → MayPass round local
  unfolding after_receives after_sends
  may_pass round local within its = record {
    point = is_first m good setup seen.epoch seen.start is_good rank round local within its;
    peers_are = peers_of m setup seen.epoch seen.start rank round local its;
    finish = λ none. finishing m good setup seen.epoch seen.start is_good rank round local local within its (sym (untouched none));
    after = λ none. next_local m setup seen.epoch seen.start rank round local its ∙ ap (λ l. Some (m.finish setup l seen.epoch round)) (untouched none);
    stays = λ some. record { first = local; its = its; here = fresh some (m.peers setup local seen.epoch round) refl };
  }
    where
      untouched : m.peers setup local seen.epoch round ≡ []
          → after_receives m setup seen.epoch round (lockstep m setup seen.epoch seen.start round) rank local (length (m.peers setup local seen.epoch round)) ≡ local
      untouched none = rw none refl

      fresh : m.peers setup local seen.epoch round ≢ [] → (xs : List ℕ) → m.peers setup local seen.epoch round ≡ xs
          → local ≡ cond (nat_lt 0 (length (m.peers setup local seen.epoch round))) (after_sends m setup seen.epoch round local 0)
          (after_receives m setup seen.epoch round (lockstep m setup seen.epoch seen.start round) rank local 0)
      fresh some [] are = absurd (some are)
      fresh some (x ∷ xs) are = sym (ap (λ b. cond b (after_sends m setup seen.epoch round local 0)
          (after_receives m setup seen.epoch round (lockstep m setup seen.epoch seen.start round) rank local 0))
          (lt-ltb 0 (length (m.peers setup local seen.epoch round)) (let e : length (m.peers setup local seen.epoch round) ≡ length (x ∷ xs) = ap length are in omega (arith, e))))
