-- Rolls: how the ranks of a run stand, one after another.
use Rattle.std.specs.Prelude.{ℕ, ◌≡◌, ◌+◌, ◌≤◌, List, map, length, slice_set, slice_index_or, count_by, None, ◌==◌}
use Rattle.std.specs.List.{range_with_len}
use Rattle.std.specs.Map.{lookup}
use Rattle.bf_core.specs.declared.standing.Stage.{Stage}
use Rattle.bf_core.specs.declared.standing.Stage.TheVariants.{Running, Gone}
use Rattle.bf_core.specs.declared.standing.Standing.{Standing}
use Rattle.bf_core.specs.Stages.{is_awaited, is_short, is_dead, goes_on, after_decision}

-- how a rank stands; what is no rank is gone
abbrev pub standing_in : List Standing → ℕ → Standing
standing_in standings rank = slice_index_or standings rank (record { stage = Gone; death = None; events = 0 })

-- a roll in which a rank has had one event more and is at a stage
abbrev pub with_stage_in : List Standing → ℕ → Stage → List Standing
with_stage_in standings rank stage =
    slice_set standings rank (record (standing_in standings rank) { stage = stage; events = (standing_in standings rank).events + 1 })

-- a roll once the epoch is decided
abbrev pub dissolved_in : List Standing → List Standing
dissolved_in standings = map {A = Standing} (λ s. record s { stage = after_decision s.stage }) standings

-- the roll at the opening
abbrev pub opening_in : (ranks : ℕ) (deaths : List (ℕ × ℕ)) → List Standing
opening_in ranks deaths =
    map (λ rank. record { stage = Running; death = lookup (λ other. other == rank) deaths; events = 0 }) (range_with_len 0 ranks)

-- how many of a roll's ranks are awaited, dead members, short of memory, and going on
pub record IsCounted (standings : List Standing) (awaited dead short going : ℕ) : Type 0 where
  pub awaited_count : awaited ≡ count_by (λ s. is_awaited s.stage) standings
  pub dead_count : dead ≡ count_by (λ s. is_dead s.stage) standings
  pub short_count : short ≡ count_by (λ s. is_short s.stage) standings
  pub going_count : going ≡ count_by (λ s. goes_on s.stage) standings
  pub few : length standings ≤ 32
