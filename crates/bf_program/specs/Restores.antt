-- What a restore gives to whom.
use Rattle.std.specs.Prelude.{◌≡◌, ℕ, Bool, IsTrue, List, map, filter, if◌then◌else◌, Some}
use Rattle.std.specs.List.{zip}
use Rattle.std.specs.Map.{keys_of}
use Rattle.bf_buddy.specs.Members.{is_member}
use Rattle.bf_buddy.specs.Buddy.{buddy_of}
use Rattle.bf_program.specs.declared.epoch.Epoch.{Epoch}
use Rattle.bf_program.specs.Epochs.{epoch_after_restore}
use Rattle.bf_program.specs.Meanings.{Meanings}
use Rattle.bf_program.specs.Lockstep.{local_of}

-- who goes on with a home's part: the home, where it lives, else its buddy
abbrev pub heir_of : (homes live : List ℕ) (shift home : ℕ) → ℕ
heir_of homes live shift home = if is_member live home then home else buddy_of homes home shift

-- the epoch that a restore begins, in which those members go on that live
abbrev pub restored_epoch : (lives : ℕ → Bool) → Epoch → Epoch
restored_epoch lives epoch = epoch_after_restore (filter lives epoch.members) epoch

-- the locals with which it begins
unfoldable pub restored_locals : {S L M T R : Type 0} → Meanings S L M T R → S → Epoch → (lives : ℕ → Bool) → List L → List L
restored_locals m setup epoch lives locals =
    map (λ seat. m.restore setup seat.1 seat.0 (restored_epoch lives epoch)) (filter (λ seat. lives seat.0) (zip epoch.members locals))

-- the members whose part of the new snapshot has a block
unfoldable pub filled_members : {S L M T R : Type 0} → Meanings S L M T R → (members : List ℕ) → List L → List ℕ
filled_members m members locals = keys_of (filter (λ seat. m.filled seat.1) (zip members locals))

-- whether a restore gives a home's part to a member
abbrev pub IsGiven : {S L M T R : Type 0} → Meanings S L M T R → S → Epoch → (lives : ℕ → Bool) → List L → (home rank : ℕ) → Type 0
IsGiven {L = L} m setup epoch lives locals home rank =
    (local : L) × (IsTrue (lives rank) × (local_of epoch.members locals rank ≡ Some local)
    × IsTrue (is_member (m.given setup (m.reads local) rank (restored_epoch lives epoch)) home))

-- exactly one live member is given a home's part
pub record IsGivenOnce {S L M T R : Type 0} (m : Meanings S L M T R) (setup : S) (epoch : Epoch) (lives : ℕ → Bool) (locals : List L) (home : ℕ) : Type 0 where
  pub heir : ℕ
  pub given : IsGiven m setup epoch lives locals home heir
  pub alone : (rank : ℕ) → IsGiven m setup epoch lives locals home rank → rank ≡ heir
