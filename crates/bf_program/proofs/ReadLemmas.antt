-- What a restore reads of a local stays through the rounds.
use Rattle.std.proofs.Common.{◌≡◌, ℕ, zero, suc, List, [], ◌∷◌, length, take, refl, ◌∙◌, ap}
use Rattle.std.specs.Prelude.{Option, Some, None}
use Rattle.std.specs.List.{fold}
use Rattle.bf_program.specs.declared.epoch.Epoch.{Epoch}
use Rattle.bf_program.specs.Meanings.{Meanings}
use Rattle.bf_program.specs.Lockstep.{local_of, after_send, after_sends, after_message, after_receives, after_round, next_locals, lockstep}
use Rattle.bf_program.specs.Laws.{KeepsReads}
use Rattle.bf_program.proofs.SeatLemmas.{local_before}

-- what each step of a fold keeps, the fold keeps
fold_keeps : {A B C : Type 0} (reads : B → C) (f : B → A → B) → ((b : B) (a : A) → reads (f b a) ≡ reads b) → (b : B) (xs : List A) → reads (fold f b xs) ≡ reads b
fold_keeps reads f keeps b [] = refl
fold_keeps reads f keeps b (x ∷ xs) = fold_keeps reads f keeps (f b x) xs ∙ keeps b x

module _ {S L M T R : Type 0} (m : Meanings S L M T R) (setup : S) (saves : KeepsReads m setup) (epoch : Epoch) where
  pub reads_sends : (round : ℕ) (local : L) (count : ℕ) → m.reads (after_sends m setup epoch round local count) ≡ m.reads local
  unfolding after_sends
  reads_sends round local count = fold_keeps m.reads (after_send m setup epoch round) (λ l to. saves.out l epoch round to) local (take count (m.peers setup local epoch round))

  reads_message : (round rank peer : ℕ) (local : L) (sender : Option L) → m.reads (after_message m setup epoch round rank peer local sender) ≡ m.reads local
  reads_message round rank peer local (Some sender) = saves.take local epoch round peer _
  reads_message round rank peer local None = refl

  pub reads_receives : (round : ℕ) (locals : List L) (rank : ℕ) (local : L) (count : ℕ) → m.reads (after_receives m setup epoch round locals rank local count) ≡ m.reads local
  unfolding after_receives
  reads_receives round locals rank local count =
      fold_keeps m.reads (λ receiver peer. after_message m setup epoch round rank peer receiver (local_of epoch.members locals peer))
      (λ l peer. reads_message round rank peer l (local_of epoch.members locals peer))
      (after_sends m setup epoch round local (length (m.peers setup local epoch round))) (take count (m.peers setup local epoch round))
      ∙ reads_sends round local (length (m.peers setup local epoch round))

  reads_round : (round : ℕ) (locals : List L) (rank : ℕ) (local : L) → m.reads (after_round m setup epoch round locals rank local) ≡ m.reads local
  unfolding after_round
  reads_round round locals rank local = saves.finish _ epoch round ∙ reads_receives round locals rank local (length (m.peers setup local epoch round))

  -- a member's local after some rounds is read as that with which it began
  pub reads_lockstep : (start : List L) (rank round : ℕ) (local : L) → local_of epoch.members (lockstep m setup epoch start round) rank ≡ Some local
      → (first : L) × ((local_of epoch.members start rank ≡ Some first) × (m.reads local ≡ m.reads first))
  unfolding next_locals
  reads_lockstep start rank zero local its = (local, (its, refl))
  reads_lockstep start rank (suc round) local its =
      let before : (l : L) × ((local_of epoch.members (lockstep m setup epoch start round) rank ≡ Some l) × (local ≡ after_round m setup epoch round (lockstep m setup epoch start round) rank l)) =
      local_before (λ seat. after_round m setup epoch round (lockstep m setup epoch start round) seat.0 seat.1) epoch.members (lockstep m setup epoch start round) rank local its in
      let first : (f : L) × ((local_of epoch.members start rank ≡ Some f) × (m.reads before.0 ≡ m.reads f)) = reads_lockstep start rank round before.0 before.1.0 in
      (first.0, (first.1.0, ap m.reads before.1.1 ∙ reads_round round (lockstep m setup epoch start round) rank before.0 ∙ first.1.1))
