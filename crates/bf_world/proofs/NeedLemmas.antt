-- How many events the journal must have memory for, as a run goes on.
use Rattle.std.proofs.Common.{◌≡◌, ℕ, ◌+◌, ◌*◌, ◌<◌, ◌≤◌, Bool, true, false, not, List, [], ◌∷◌, map, length, arith, refl, ◌∙◌, ap}
use Rattle.std.specs.Prelude.{◌==◌, sum_by, Option, Some, None, is_some, if◌then◌else◌}
use Rattle.std.specs.List.{list_any}
use Rattle.std.proofs.lemmas.List.Sums.{sum_by-cons, sum_by-set}
use Rattle.std.proofs.lemmas.Bool.{not-true, or_parts, and_parts}
use Rattle.bf_buddy.specs.Losses.{first_lost_of}
use Rattle.bf_core.specs.declared.decision.Decision.{Decision}
use Rattle.bf_core.specs.declared.decision.Decision.TheVariants.{Lose, WantMemory, Commit, Restore}
use Rattle.bf_core.specs.declared.event.How.TheVariants.{Done, Broken, Memory}
use Rattle.bf_core.specs.declared.event.Event.TheVariants.{Arrive, Leave, Die}
use Rattle.bf_core.specs.declared.outcome.Outcome.{Outcome}
use Rattle.bf_core.specs.declared.outcome.Outcome.TheVariants as outcomes
use Rattle.bf_core.specs.declared.standing.Stage.{Stage}
use Rattle.bf_core.specs.declared.standing.Stage.TheVariants.{Running, Arrived, Leaving, Ended, Dead, Gone}
use Rattle.bf_core.specs.declared.standing.Standing.{Standing}
use Rattle.bf_core.specs.Stages.{is_short, is_leaving, goes_on, after_decision}
use Rattle.bf_core.specs.States.{State, stage, is_due, is_active, has_everyone_arrived, is_short_of_memory, live_members}
use Rattle.bf_core.specs.Next.{with_stage, is_ripe, is_everyone_done, decision, decision_where, decided, settled, dissolved, ended, committed, restored, next}
use Rattle.bf_core.proofs.StageLemmas.{nobody, is_rank}
use Rattle.bf_core.proofs.SoundLemmas.{acting, in_list, leaving_stage}
use Rattle.bf_world.specs.Worlds.{room_of, room_needed}

-- whether a decision ends the run whatever the epoch
abbrev is_end : Decision → Bool
is_end (Lose home buddy) = true
is_end WantMemory = true
is_end Commit = false
is_end Restore = false

-- how many events a rank at a stage may have at most
few : (ended : Bool) (s : Stage) → room_of ended s ≤ 3
few ended Running = omega arith
few ended (Arrived Done filled) = omega arith
few ended (Arrived Broken filled) = omega arith
few ended (Arrived Memory filled) = omega arith
few true Leaving = omega arith
few false Leaving = omega arith
few ended Ended = omega arith
few ended Dead = omega arith
few ended Gone = omega arith

few_each : (ended : Bool) (standings : List Standing) → sum_by (λ s. room_of ended s.stage) standings ≤ 3 * length standings
few_each ended [] = omega arith
few_each ended (s ∷ standings) = omega (arith, sum_by-cons {X = Standing} (λ s. room_of ended s.stage) s standings, few ended s.stage, few_each ended standings)

-- three for each rank are enough
pub need_bounded : (state : State) → room_needed state ≤ 3 * length state.standings
unfolding room_needed
need_bounded state = few_each (is_some state.outcome) state.standings

-- a rank is at another stage
pub need_moved : (state : State) (rank : ℕ) (to : Stage) → rank < length state.standings
    → room_needed (with_stage state rank to) + room_of (is_some state.outcome) (stage state rank) ≡ room_needed state + room_of (is_some state.outcome) to
unfolding room_needed
need_moved state rank to within = sum_by-set {X = Standing} (λ s. room_of (is_some state.outcome) s.stage) state.standings rank _ nobody within

-- after an end a rank has its leave or nothing left
less_ended : (s : Stage) → room_of true (after_decision s) ≤ room_of false s
less_ended Running = omega arith
less_ended (Arrived Done filled) = omega arith
less_ended (Arrived Broken filled) = omega arith
less_ended (Arrived Memory filled) = omega arith
less_ended Leaving = omega arith
less_ended Ended = omega arith
less_ended Dead = omega arith
less_ended Gone = omega arith

-- and where the run goes on, who leaves was not short of memory
less_on : (s : Stage) → is_short s ≡ false → room_of false (after_decision s) ≤ room_of false s
less_on Running fits = omega arith
less_on (Arrived Done filled) fits = omega arith
less_on (Arrived Broken filled) fits = omega arith
less_on (Arrived Memory filled) short = absurd (cc)
less_on Leaving fits = omega arith
less_on Ended fits = omega arith
less_on Dead fits = omega arith
less_on Gone fits = omega arith

abbrev after : Standing → Standing
after s = record s { stage = after_decision s.stage }

ended_each : (standings : List Standing) → sum_by (λ s. room_of true s.stage) (map after standings) ≤ sum_by (λ s. room_of false s.stage) standings
ended_each [] = omega arith
ended_each (s ∷ standings) = omega (
  arith,
  sum_by-cons {X = Standing} (λ s. room_of true s.stage) (after s) (map after standings),
  sum_by-cons {X = Standing} (λ s. room_of false s.stage) s standings,
  less_ended s.stage,
  ended_each standings,
)

on_each : (standings : List Standing) → list_any (λ s. is_short s.stage) standings ≡ false
    → sum_by (λ s. room_of false s.stage) (map after standings) ≤ sum_by (λ s. room_of false s.stage) standings
on_each [] fits = omega arith
on_each (s ∷ standings) fits =
    let both : (is_short s.stage ≡ false) × (list_any (λ s. is_short s.stage) standings ≡ false) = or_parts (is_short s.stage) _ fits in
    omega (
      arith,
      sum_by-cons {X = Standing} (λ s. room_of false s.stage) (after s) (map after standings),
      sum_by-cons {X = Standing} (λ s. room_of false s.stage) s standings,
      less_on s.stage both.0,
      on_each standings both.1,
    )

abbrev sums : Bool → List Standing → ℕ
sums ended standings = sum_by (λ s. room_of ended s.stage) standings

need_is : (state : State) (b : Bool) → is_some state.outcome ≡ b → room_needed state ≡ sums b state.standings
unfolding room_needed
need_is state b is = ap (λ ended. sums ended state.standings) is

need_ended : (state : State) (outcome : Outcome) → is_some state.outcome ≡ false → room_needed (ended state outcome) ≤ room_needed state
unfolding dissolved
need_ended state outcome on =
    omega (arith, need_is state false on, need_is (ended state outcome) true refl, ended_each state.standings)

need_committed : (state : State) → is_some state.outcome ≡ false → is_short_of_memory state ≡ false → room_needed (committed state) ≤ room_needed state
unfolding dissolved
need_committed state on fits =
    omega (arith, need_is state false on, need_is (committed state) false on, on_each state.standings fits)

need_restored : (state : State) → is_some state.outcome ≡ false → is_short_of_memory state ≡ false → room_needed (restored state) ≤ room_needed state
unfolding dissolved
need_restored state on fits =
    omega (arith, need_is state false on, need_is (restored state) false on, on_each state.standings fits)

-- where a member is short of memory, the run ends
fits_where_on : (state : State) (made : Decision) → decision state ≡ made → is_end made ≡ false → is_short_of_memory state ≡ false
unfolding decision
fits_where_on state made is on = by_loss (first_lost_of state.epoch.homes state.stored (live_members state) state.shift) is
  where
    by_short : (b : Bool) → (if b then WantMemory else (if is_everyone_done state then Commit else Restore)) ≡ made → b ≡ false
    by_short true wants = absurd (let e : true ≡ false = ap is_end wants ∙ on in cc)
    by_short false _ = refl

    by_loss : (lost : Option (ℕ × ℕ)) → decision_where lost state ≡ made → is_short_of_memory state ≡ false
    by_loss (Some lost) loses = absurd (let e : true ≡ false = ap is_end loses ∙ on in cc)
    by_loss None is = by_short (is_short_of_memory state) is

need_decided : (state : State) (made : Decision) → decision state ≡ made → is_some state.outcome ≡ false → room_needed (decided state made) ≤ room_needed state
unfolding decided
need_decided state (Lose home buddy) is on = need_ended state (outcomes.Lost state.epoch.time home buddy) on
need_decided state WantMemory is on = need_ended state outcomes.Memory on
need_decided state Commit is on = by_end (state.epoch.target == state.steps)
  where
    by_end : (b : Bool) → room_needed (if b then ended state outcomes.Finished else committed state) ≤ room_needed state
    by_end true = need_ended state outcomes.Finished on
    by_end false = need_committed state on (fits_where_on state Commit is refl)
need_decided state Restore is on = need_restored state on (fits_where_on state Restore is refl)

need_settled : (state : State) → room_needed (settled state) ≤ room_needed state
unfolding settled
need_settled state = by_ripe (is_ripe state) refl
  where
    by_ripe : (b : Bool) → is_ripe state ≡ b → room_needed (if b then decided state (decision state) else state) ≤ room_needed state
    by_ripe true ripe = need_decided state (decision state) refl (not-true (is_some state.outcome) (and_parts (not (is_some state.outcome)) (has_everyone_arrived state) ripe).0)
    by_ripe false unripe = omega arith

-- an arrival for want of memory leaves room for less
pub need_short : (state : State) (rank : ℕ) (filled : Bool) → is_active state rank ≡ true → room_needed (next state (Arrive rank Memory) filled) + 1 ≤ room_needed state
need_short state rank filled active =
    let runs : stage state rank ≡ Running = acting state rank active in
    let had : room_of (is_some state.outcome) (stage state rank) ≡ 2 = ap (room_of (is_some state.outcome)) runs in
    omega (arith, had, need_moved state rank (Arrived Memory false) (in_list state rank runs), need_settled (with_stage state rank (Arrived Memory false)))

-- so does a leave
pub need_left : (state : State) (rank : ℕ) (filled : Bool) → is_leaving (stage state rank) ≡ true → room_needed (next state (Leave rank) filled) + 1 ≤ room_needed state
need_left state rank filled leaving = by_end (is_some state.outcome) (ap (room_of (is_some state.outcome)) (leaving_stage state rank leaving))
    (need_moved state rank (if is_some state.outcome then Ended else Running) (is_rank is_leaving state rank refl leaving))
  where
    by_end : (b : Bool) → room_of b (stage state rank) ≡ room_of b Leaving
        → room_needed (with_stage state rank (if is_some state.outcome then Ended else Running)) + room_of b (stage state rank) ≡ room_needed state + room_of b (if b then Ended else Running)
        → room_needed (with_stage state rank (if is_some state.outcome then Ended else Running)) + 1 ≤ room_needed state
    by_end true had moved = omega (arith, had, moved)
    by_end false had moved = omega (arith, had, moved)

some_left : (b : Bool) (s : Stage) → goes_on s ≡ true → 1 ≤ room_of b s
some_left b Running goes = omega arith
some_left b (Arrived Done filled) goes = omega arith
some_left b (Arrived Broken filled) goes = omega arith
some_left b (Arrived Memory filled) goes = omega arith
some_left true Leaving goes = omega arith
some_left false Leaving goes = omega arith
some_left b Ended over = absurd (cc)
some_left b Dead dead = absurd (cc)
some_left b Gone gone = absurd (cc)

-- and a death
pub need_died : (state : State) (rank : ℕ) (filled : Bool) → is_due state rank ≡ true → room_needed (next state (Die rank) filled) + 1 ≤ room_needed state
need_died state rank filled due =
    let goes : goes_on (stage state rank) ≡ true = (and_parts (goes_on (stage state rank)) _ due).0 in
    omega (arith, some_left (is_some state.outcome) (stage state rank) goes, need_moved state rank Dead (is_rank goes_on state rank refl goes), need_settled (with_stage state rank Dead))
