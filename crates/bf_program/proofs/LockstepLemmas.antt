-- What the lockstep keeps from a good start.
use Rattle.std.proofs.Common.{◌≡◌, ℕ, zero, suc, ◌+◌, ◌≤◌, List, arith, refl, subst, ◌∙◌}
use Rattle.bf_program.specs.declared.epoch.Epoch.{Epoch}
use Rattle.bf_program.specs.Meanings.{Meanings}
use Rattle.bf_program.specs.Lockstep.{next_locals, lockstep}
use Rattle.bf_program.specs.Laws.{KeepsGood, KeepsStored}

module _ {S L M T R : Type 0} (m : Meanings S L M T R) (good : S → Epoch → ℕ → List L → Type 0) (setup : S) (goods : KeepsGood m good setup) where
  pub stays_good : (epoch : Epoch) (start : List L) (round : ℕ) → good setup epoch 0 start → round ≤ m.rounds setup epoch
      → good setup epoch round (lockstep m setup epoch start round)
  stays_good epoch start zero is_good within = is_good
  stays_good epoch start (suc round) is_good within =
      let before : good setup epoch round (lockstep m setup epoch start round) = stays_good epoch start round is_good (omega arith) in
      let after : good setup epoch (round + 1) (next_locals m setup epoch round (lockstep m setup epoch start round)) =
      goods.next epoch round _ before (omega arith) in
      let P : ℕ → Type 0 = λ n. good setup epoch n (next_locals m setup epoch round (lockstep m setup epoch start round)) in
      let more : round + 1 ≡ suc round = omega arith in
      subst P more after

  pub keeps_stored : KeepsStored m good setup → (epoch : Epoch) (start : List L) (round : ℕ) → good setup epoch 0 start → round ≤ m.rounds setup epoch
      → m.stored (lockstep m setup epoch start round) ≡ m.stored start
  keeps_stored stores epoch start zero is_good within = refl
  keeps_stored stores epoch start (suc round) is_good within =
      let in_range : round ≤ m.rounds setup epoch = omega arith in
      let before : good setup epoch round (lockstep m setup epoch start round) = stays_good epoch start round is_good in_range in
      stores.next epoch round _ before (omega arith) ∙ keeps_stored stores epoch start round is_good in_range
