-- What an arrival or a death leaves beside the core, told from the state after it.
use Rattle.std.specs.Prelude.{ℕ, ◌+◌, Bool, ◌&&◌, ◌||◌, not, if◌then◌else◌, List, [], ◌∷◌, Option, Some, None, is_some}
use Rattle.bf_core.specs.Stages.{is_arrived, is_dead}
use Rattle.bf_core.specs.States.{State, stage}
use Rattle.bf_world.specs.declared.answers.Got.{Got}
use Rattle.bf_world.specs.declared.answers.Got.TheVariants as got
use Rattle.bf_world.specs.Queues.{Waiting, no_messages}

-- whether an arrival or a death of a rank brought a decision: then no rank has arrived, and no member is dead
abbrev pub is_decided : State → (rank : ℕ) → Bool
is_decided state rank = not (is_arrived (stage state rank) || is_dead (stage state rank))

-- whether a run goes on from a restore
abbrev pub is_restored : State → Bool
is_restored state = not (is_some state.outcome) && state.epoch.restored

-- after a decision no message waits
abbrev pub waiting_settled : {M : Type 0} → State → (rank : ℕ) → Waiting M → Waiting M
waiting_settled state rank waiting = if is_decided state rank then no_messages waiting.ranks else waiting

-- after a restore no parcel is there
abbrev pub parcels_settled : {T : Type 0} → State → (rank : ℕ) → List (ℕ × T) → List (ℕ × T)
parcels_settled state rank parcels = if is_decided state rank && is_restored state then [] else parcels

-- a restore counts
abbrev pub restores_settled : State → (rank before : ℕ) → ℕ
restores_settled state rank before = if is_decided state rank && is_restored state then before + 1 else before

-- the parcel that a rank gives, if there is one
abbrev pub given : {T : Type 0} → (rank : ℕ) → Option T → List (ℕ × T)
given rank (Some part) = (rank, part) ∷ []
given rank None = []

-- whether an answer is a message
abbrev pub IsMessage : {M : Type 0} → Got M → Type 0
IsMessage (got.Message msg) = Unit {0}
IsMessage got.NotYet = ⊥
IsMessage got.Broken = ⊥
IsMessage got.Short = ⊥
