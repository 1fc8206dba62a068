-- The rounds of an epoch: the stages of each of its steps of time, and the one in which the new snapshot is made.
use Rattle.std.specs.Prelude.{ℕ, ◌+◌, ◌-◌, ◌≤◌, min, length, List, [], ◌∷◌, ◌++◌, slice_index_or}
use Rattle.std.specs.List.{range_with_len, flat_map}
use Rattle.bf_program.specs.declared.epoch.Epoch.{Epoch}

-- how many steps of time an epoch makes
unfoldable pub span : Epoch → ℕ
span epoch = min (epoch.target - epoch.time) 128

-- an epoch leads forth, and not so far that steps are left out
pub record IsShort (epoch : Epoch) : Type 0 where
  pub forth : epoch.time ≤ epoch.target
  pub near : epoch.target ≤ epoch.time + 128

-- the stages of the step from a time to the next, the one in which the snapshot is made, and what stands behind all rounds
pub record Plan (G : Type 0) : Type 0 where
  pub in_step : (time : ℕ) → List G
  pub snapshot : G
  pub over : G

-- the stages of so many steps from a time on, and the snapshot
abbrev pub stages_from : {G : Type 0} → Plan G → (time count : ℕ) → List G
stages_from plan time count = flat_map plan.in_step (range_with_len time count) ++ plan.snapshot ∷ []

-- what the rounds of an epoch do
abbrev pub stages_of : {G : Type 0} → Plan G → Epoch → List G
stages_of plan epoch = stages_from plan epoch.time (span epoch)

abbrev pub rounds_of : {G : Type 0} → Plan G → Epoch → ℕ
rounds_of plan epoch = length (stages_of plan epoch)

-- what a round does
unfoldable pub stage_of : {G : Type 0} → Plan G → Epoch → (round : ℕ) → G
stage_of plan epoch round = slice_index_or (stages_of plan epoch) round plan.over
