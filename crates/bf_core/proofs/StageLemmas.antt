-- The stages of all ranks, as they change.
use Rattle.std.proofs.Common.{◌≡◌, ◌≢◌, ℕ, zero, suc, ◌<◌, Bool, true, false, List, [], ◌∷◌, length, arith, ap}
use Rattle.std.specs.Prelude.{None}
use Rattle.std.specs.List.{list_any}
use Rattle.std.proofs.Math.ListN.{get_or, get_or-map}
use Rattle.std.proofs.lemmas.List.{get_or-set_same, get_or-set_other}
use Rattle.std.proofs.lemmas.List.Folds.{list_any_at}
use Rattle.bf_core.specs.declared.standing.Stage.{Stage}
use Rattle.bf_core.specs.declared.standing.Stage.TheVariants.{Gone}
use Rattle.bf_core.specs.declared.standing.Standing.{Standing}
use Rattle.bf_core.specs.Stages.{after_decision}
use Rattle.bf_core.specs.States.{State, stage}
use Rattle.bf_core.specs.Next.{with_stage, dissolved}
use Rattle.bf_core.proofs.ListLemmas.{found, none_at}

abbrev pub nobody : Standing
nobody = record { stage = Gone; death = None; events = 0 }

-- some rank's stage passes a test
abbrev pub Someone : (Stage → Bool) → State → Type 0
Someone test state = (rank : ℕ) × ((rank < length state.standings) × (test (stage state rank) ≡ true))

-- no rank's stage does
abbrev pub Nobody : (Stage → Bool) → State → Type 0
Nobody test state = (rank : ℕ) → test (stage state rank) ≡ false

pub someone : (test : Stage → Bool) (state : State) → list_any (λ s. test s.stage) state.standings ≡ true → Someone test state
someone test state some = found (λ s. test s.stage) state.standings nobody some

pub someone_any : (test : Stage → Bool) (state : State) → Someone test state → list_any (λ s. test s.stage) state.standings ≡ true
someone_any test state some = list_any_at (λ s. test s.stage) state.standings some.0 nobody some.1.0 some.1.1

pub nobody_any : (test : Stage → Bool) (state : State) → test Gone ≡ false → list_any (λ s. test s.stage) state.standings ≡ false → Nobody test state
nobody_any test state default none rank = none_at (λ s. test s.stage) state.standings rank nobody default none

-- a rank whose stage passes a test that the gone fail is one
pub is_rank : (test : Stage → Bool) (state : State) (rank : ℕ) → test Gone ≡ false → test (stage state rank) ≡ true → rank < length state.standings
is_rank test state rank default passes = in_list state.standings rank passes
  where
    in_list : (xs : List Standing) (i : ℕ) → test (get_or xs i nobody).stage ≡ true → i < length xs
    in_list [] i passed = absurd (cc)
    in_list (x ∷ xs) zero passed = omega arith
    in_list (x ∷ xs) (suc i) passed = omega (arith, in_list xs i passed)

pub stage_same : (state : State) (rank : ℕ) (to : Stage) → rank < length state.standings → stage (with_stage state rank to) rank ≡ to
stage_same state rank to within = ap (λ s. s.stage) (get_or-set_same state.standings rank _ nobody within)

pub stage_other : (state : State) (rank other : ℕ) (to : Stage) → other ≢ rank → stage (with_stage state rank to) other ≡ stage state other
stage_other state rank other to differs = ap (λ s. s.stage) (get_or-set_other state.standings rank other _ nobody differs)

pub stage_dissolved : (state : State) (rank : ℕ) → stage (dissolved state) rank ≡ after_decision (stage state rank)
unfolding dissolved
stage_dissolved state rank = ap (λ s. s.stage) (get_or-map {A = Standing} (λ s. record s { stage = after_decision s.stage }) state.standings rank nobody)
