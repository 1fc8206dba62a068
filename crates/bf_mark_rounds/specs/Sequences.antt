-- Rounds one after another.
use Rattle.std.specs.Prelude.{◌≡◌, ℕ, ◌+◌, List, [], ◌∷◌, ⊤}
use Rattle.std.specs.List.{fold, range_with_len}
use Rattle.bf_program.specs.declared.epoch.Epoch.{Epoch}
use Rattle.bf_program.specs.Lockstep.{next_locals}
use Rattle.bf_program.specs.Meanings.{Meanings}
use Rattle.bf_rounds.specs.Courses.{Course}
use Rattle.bf_rounds.specs.Delivering.{Delivery, PlaysDelivery}
use Rattle.bf_rounds.specs.Leading.{LeadsBy}

-- plays lead on one after another, each from where the one before it led to
unfoldable pub LeadThrough : {L M : Type 0} → (plays : List (Delivery L M)) → (members : List ℕ) → (before after : ℕ → L) → Type 0
LeadThrough [] members before after = before ≡ after
LeadThrough {L} {M} (play ∷ plays) members before after =
    (between : ℕ → L) × (course : Course L M) × LeadsBy play members course before between × LeadThrough plays members between after

-- a program plays these in its rounds from one on
unfoldable pub PlaysFrom : {S L M T R : Type 0} → Meanings S L M T R → S → Epoch → (round : ℕ) → (plays : List (Delivery L M)) → Type 0
PlaysFrom m setup epoch round [] = ⊤
PlaysFrom m setup epoch round (play ∷ plays) = PlaysDelivery m setup epoch round play × PlaysFrom m setup epoch (round + 1) plays

-- the members' locals after so many rounds from one on
abbrev pub after_rounds : {S L M T R : Type 0} → Meanings S L M T R → S → Epoch → (round count : ℕ) → (locals : List L) → List L
after_rounds m setup epoch round count locals = fold (λ locals round. next_locals m setup epoch round locals) locals (range_with_len round count)
