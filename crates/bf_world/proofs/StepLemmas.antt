-- A rank's local, step by step through its rounds.
use Rattle.std.proofs.Common.{◌≡◌, ℕ, zero, suc, ◌+◌, ◌<◌, Bool, true, false, cond, not, List, [], ◌∷◌, length, take, arith, refl, sym, subst, ◌∙◌, ap}
use Rattle.std.specs.Prelude.{◌==◌, Some, slice_get}
use Rattle.std.specs.List.{fold}
use Rattle.std.proofs.lemmas.Bool.{eqb-true, eq-eqb}
use Rattle.std.proofs.lemmas.Option.{same_Some}
use Rattle.bf_world.proofs.PeerLemmas.{member_at}
use Rattle.bf_buddy.specs.Members.{is_member}
use Rattle.bf_buddy.specs.Buddy.{place_of}
use Rattle.bf_program.specs.declared.epoch.Epoch.{Epoch}
use Rattle.bf_program.specs.Meanings.{Meanings}
use Rattle.bf_program.specs.Lockstep.{local_of, after_send, after_sends, message, after_message, after_receives, after_round, next_locals, lockstep}
use Rattle.bf_program.specs.Points.{BeginsRound, IsFirst, IsSending, IsReceiving, IsFinishing}
use Rattle.bf_program.proofs.SeatLemmas.{local_changed}
use Rattle.bf_world.specs.Course.{local_at}
use Rattle.bf_world.proofs.MemberLemmas.{Apart}

-- a fold over one more element
fold_more : {A B : Type 0} (f : B → A → B) (b : B) (xs : List A) (i : ℕ) (x : A) → slice_get xs i ≡ Some x → fold f b (take (i + 1) xs) ≡ f (fold f b (take i xs)) x
fold_more f b [] i x found = absurd (cc)
fold_more f b (y ∷ ys) zero x found = ap (f b) (same_Some _ _ found)
fold_more {A = A} f b (y ∷ ys) (suc i) x found =
    let more : suc i + 1 ≡ suc (i + 1) = omega arith in
    let P : ℕ → Type 0 = λ n. fold f b (take n (y ∷ ys)) ≡ f (fold f (f b y) (take i ys)) x in
    subst P (sym more) (fold_more f (f b y) ys i x found)

-- the place of an element that stands once
place_at : (xs : List ℕ) (i x : ℕ) → Apart xs → slice_get xs i ≡ Some x → place_of xs x ≡ i
place_at [] i x apart found = absurd (cc)
place_at (y ∷ ys) zero x apart found = ap (λ b. cond (not b) (1 + place_of ys x) 0) (eq-eqb y x (same_Some _ _ found))
place_at (y ∷ ys) (suc i) x apart found = by_first (y == x) refl (place_at ys i x apart.1 found)
  where
    by_first : (b : Bool) → (y == x) ≡ b → place_of ys x ≡ i → cond (not b) (1 + place_of ys x) 0 ≡ suc i
    by_first true same _ = absurd (let e : false ≡ true = sym apart.0 ∙ ap (is_member ys) (eqb-true y x same) ∙ member_at ys i x found in cc)
    by_first false other rest = omega (arith, rest)

module _ {S L M T R : Type 0} (m : Meanings S L M T R) (good : S → Epoch → ℕ → List L → Type 0) (setup : S) (epoch : Epoch) (start : List L)
    (is_good : good setup epoch 0 start) where
  pub first_at : (rank round : ℕ) (first : L) → round < m.rounds setup epoch → local_at m setup epoch start rank round ≡ Some first
      → BeginsRound m good setup epoch round (lockstep m setup epoch start round) rank first
  first_at rank round first within its = record { reached = record { start = start; good_start = is_good; within = within; reached = refl }; its = its }

  pub is_first : (rank round : ℕ) (first : L) → round < m.rounds setup epoch → local_at m setup epoch start rank round ≡ Some first → IsFirst m good setup epoch round first
  is_first rank round first within its = record { locals = lockstep m setup epoch start round; rank = rank; begins = first_at rank round first within its }

  pub sending : (rank round count to : ℕ) (first local : L) → round < m.rounds setup epoch → local_at m setup epoch start rank round ≡ Some first
      → local ≡ after_sends m setup epoch round first count → slice_get (m.peers setup first epoch round) count ≡ Some to → IsSending m good setup epoch round to local
  sending rank round count to first local within its sent next =
      record { first = first; is_first = is_first rank round first within its; count = count; sent = sent; next = next }

  pub receiving : (rank peer round count : ℕ) (first local sender : L) (msg : M) → round < m.rounds setup epoch → local_at m setup epoch start rank round ≡ Some first
      → local ≡ after_receives m setup epoch round (lockstep m setup epoch start round) rank first count → slice_get (m.peers setup first epoch round) count ≡ Some peer
      → local_at m setup epoch start peer round ≡ Some sender → msg ≡ message m setup epoch round sender rank → IsReceiving m good setup epoch round peer msg local
  receiving rank peer round count first local sender msg within its received next sends sent = record {
    locals = lockstep m setup epoch start round;
    rank = rank;
    first = first;
    begins = first_at rank round first within its;
    count = count;
    received = received;
    next = next;
    sender = sender;
    sends = sends;
    sent = sent;
  }

  pub finishing : (rank round : ℕ) (first local : L) → round < m.rounds setup epoch → local_at m setup epoch start rank round ≡ Some first
      → local ≡ after_receives m setup epoch round (lockstep m setup epoch start round) rank first (length (m.peers setup first epoch round)) → IsFinishing m good setup epoch round local
  finishing rank round first local within its received = record
      { locals = lockstep m setup epoch start round; rank = rank; first = first; begins = first_at rank round first within its; received = received }

module _ {S L M T R : Type 0} (m : Meanings S L M T R) (setup : S) (epoch : Epoch) where
  pub sends_more : (round count to : ℕ) (first : L) → slice_get (m.peers setup first epoch round) count ≡ Some to
      → after_sends m setup epoch round first (count + 1) ≡ (m.out setup (after_sends m setup epoch round first count) epoch round to).0
  unfolding after_sends
  sends_more round count to first next = fold_more (after_send m setup epoch round) first (m.peers setup first epoch round) count to next

  pub message_next : (round count to : ℕ) (first : L) → Apart (m.peers setup first epoch round) → slice_get (m.peers setup first epoch round) count ≡ Some to
      → message m setup epoch round first to ≡ (m.out setup (after_sends m setup epoch round first count) epoch round to).1
  unfolding message
  message_next round count to first apart next =
      ap (λ n. (m.out setup (after_sends m setup epoch round first n) epoch round to).1) (place_at (m.peers setup first epoch round) count to apart next)

  pub receives_more : (round : ℕ) (locals : List L) (rank count peer : ℕ) (first sender : L) → slice_get (m.peers setup first epoch round) count ≡ Some peer
      → local_of epoch.members locals peer ≡ Some sender
      → after_receives m setup epoch round locals rank first (count + 1)
      ≡ m.take setup (after_receives m setup epoch round locals rank first count) epoch round peer (message m setup epoch round sender rank)
  unfolding after_receives
  receives_more round locals rank count peer first sender next sends =
      fold_more (λ receiver peer. after_message m setup epoch round rank peer receiver (local_of epoch.members locals peer))
      (after_sends m setup epoch round first (length (m.peers setup first epoch round))) (m.peers setup first epoch round) count peer next
      ∙ ap (after_message m setup epoch round rank peer (after_receives m setup epoch round locals rank first count)) sends

  -- before the first receive all is sent
  pub receives_none : (round : ℕ) (locals : List L) (rank : ℕ) (first : L)
      → after_receives m setup epoch round locals rank first 0 ≡ after_sends m setup epoch round first (length (m.peers setup first epoch round))
  unfolding after_receives
  receives_none round locals rank first = refl

  -- a member's local after a round
  pub next_local : (start : List L) (rank round : ℕ) (first : L) → local_at m setup epoch start rank round ≡ Some first
      → local_at m setup epoch start rank (round + 1)
      ≡ Some (m.finish setup (after_receives m setup epoch round (lockstep m setup epoch start round) rank first (length (m.peers setup first epoch round))) epoch round)
  unfolding next_locals after_round
  next_local start rank round first its =
      ap (local_at m setup epoch start rank) more
      ∙ local_changed (λ seat. after_round m setup epoch round (lockstep m setup epoch start round) seat.0 seat.1) epoch.members (lockstep m setup epoch start round) rank first its
    where
      more : round + 1 ≡ suc round
      more = omega arith
