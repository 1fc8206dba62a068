-- How fast counts grow: by one an event at most.
use Rattle.std.proofs.Common.{zero, ◌≡◌, ℕ, ◌+◌, ◌≤◌, Bool, true, false, List, length, get_or, set, map, arith, refl, ap, sym, ◌∙◌, subst, inl, inr, get_or-set_same, get_or-set_other, replicate}
use Rattle.std.specs.Prelude.{if◌then◌else◌, ◌==◌, None}
use Rattle.std.proofs.lemmas.Bool.{cases_lt, cases_eq}
use Rattle.std.proofs.lemmas.List.{get_or_past, set_past, get_or-map, get_or-replicate, length-map, length-replicate}
use Rattle.bf_core.specs.declared.decision.Decision.{Decision}
use Rattle.bf_core.specs.declared.decision.Decision.TheVariants.{Lose, WantMemory, Commit, Restore}
use Rattle.bf_core.specs.declared.event.Event.{Event}
use Rattle.bf_core.specs.declared.event.Event.TheVariants.{Send, Recv, Arrive, Leave, Die}
use Rattle.bf_core.specs.declared.outcome.Outcome.TheVariants as outcomes
use Rattle.bf_core.specs.declared.standing.Stage.{Stage}
use Rattle.bf_core.specs.declared.standing.Stage.TheVariants.{Gone, Dead}
use Rattle.bf_core.specs.declared.standing.Standing.{Standing}
use Rattle.bf_core.specs.Stages.{after_decision}
use Rattle.bf_core.specs.Rolls.{standing_in, with_stage_in, dissolved_in}
use Rattle.bf_core.specs.States.{State, standing, channel}
use Rattle.bf_core.specs.Next.{decided, decision, settled, dissolved, ended, committed, is_ripe, with_stage, next}

events_after_stage : (standings : List Standing) (rank r : ℕ) (stage : Stage) → (standing_in (with_stage_in standings rank stage) r).events ≤ (standing_in standings r).events + 1
events_after_stage standings rank r stage =
    let none : Standing = record { stage = Gone; death = None; events = 0 } in
    let more : Standing = record (standing_in standings rank) { stage = stage; events = (standing_in standings rank).events + 1 } in
    elim (cases_lt rank (length standings)) [
      | inl within ↦ elim (cases_eq r rank) [
        | inl same ↦
            let now : (get_or (set standings rank more) rank none).events ≡ (standing_in standings rank).events + 1 = ap (λ (s : Standing). s.events) (get_or-set_same standings rank more none within) in
            subst (λ (n : ℕ). (standing_in (with_stage_in standings rank stage) n).events ≤ (standing_in standings n).events + 1) (sym same) (omega (arith, now))
        | inr other ↦
            let now : (get_or (set standings rank more) r none).events ≡ (standing_in standings r).events = ap (λ (s : Standing). s.events) (get_or-set_other standings rank r more none other) in
            omega (arith, now)
      ]
      | inr past ↦
          let now : (get_or (set standings rank more) r none).events ≡ (standing_in standings r).events = ap (λ (xs : List Standing). (get_or xs r none).events) (set_past standings rank more past) in
          omega (arith, now)
    ]

events_dissolved : (standings : List Standing) (r : ℕ) → (standing_in (dissolved_in standings) r).events ≡ (standing_in standings r).events
events_dissolved standings r =
    let none : Standing = record { stage = Gone; death = None; events = 0 } in
    let each : Standing → Standing = λ s. record s { stage = after_decision s.stage } in
    let long : length (map each standings) ≡ length standings = length-map standings each in
    elim (cases_lt r (length standings)) [
      | inl within ↦ ap (λ (s : Standing). s.events) (get_or-map each standings r none none within)
      | inr past ↦
          let over : length (map each standings) ≤ r = omega arith in
          ap (λ (s : Standing). s.events) (get_or_past (map each standings) r none over)
          ∙ sym (ap (λ (s : Standing). s.events) (get_or_past standings r none past))
    ]

either : (r : ℕ) (b : Bool) (x y : State) (n : ℕ) → (standing x r).events ≡ n → (standing y r).events ≡ n → (standing (if b then x else y) r).events ≡ n
either r true x y n first second = first
either r false x y n first second = second

events_decided : (state : State) (how : Decision) (r : ℕ) → (standing (decided state how) r).events ≡ (standing state r).events
unfolding decided dissolved
events_decided state (Lose home buddy) r = events_dissolved state.standings r
events_decided state WantMemory r = events_dissolved state.standings r
events_decided state Commit r =
    either r (state.epoch.target == state.steps) (ended state outcomes.Finished) (committed state) (standing state r).events
    (events_dissolved state.standings r) (events_dissolved state.standings r)
events_decided state Restore r = events_dissolved state.standings r

events_settled : (state : State) (r : ℕ) → (standing (settled state) r).events ≡ (standing state r).events
unfolding settled
events_settled state r =
    either r (is_ripe state) (decided state (decision state)) state (standing state r).events (events_decided state (decision state) r) refl

events_stopped : (state : State) (rank r : ℕ) (stage : Stage) → (standing (settled (with_stage state rank stage)) r).events ≤ (standing state r).events + 1
events_stopped state rank r stage =
    let kept : (standing (settled (with_stage state rank stage)) r).events ≡ (standing (with_stage state rank stage) r).events = events_settled (with_stage state rank stage) r in
    let more : (standing (with_stage state rank stage) r).events ≤ (standing state r).events + 1 = events_after_stage state.standings rank r stage in
    omega (arith, kept, more)

-- a rank has one event more at most after an event
pub events_grow : (state : State) (event : Event) (filled : Bool) (r : ℕ) → (standing (next state event filled) r).events ≤ (standing state r).events + 1
events_grow state (Send rank to blocks sum) filled r = events_after_stage state.standings rank r _
events_grow state (Recv rank peer) filled r = events_after_stage state.standings rank r _
events_grow state (Arrive rank how) filled r = events_stopped state rank r _
events_grow state (Leave rank) filled r = events_after_stage state.standings rank r _
events_grow state (Die rank) filled r = events_stopped state rank r Dead

length_after_set : (lengths : List ℕ) (i j n : ℕ) → n ≤ get_or lengths i 0 + 1 → get_or (set lengths i n) j 0 ≤ get_or lengths j 0 + 1
length_after_set lengths i j n near =
    elim (cases_lt i (length lengths)) [
      | inl within ↦ elim (cases_eq j i) [
        | inl same ↦
            let now : get_or (set lengths i n) i 0 ≡ n = get_or-set_same lengths i n 0 within in
            subst (λ (k : ℕ). get_or (set lengths i n) k 0 ≤ get_or lengths k 0 + 1) (sym same) (omega (arith, now))
        | inr other ↦
            let now : get_or (set lengths i n) j 0 ≡ get_or lengths j 0 = get_or-set_other lengths i j n 0 other in
            omega (arith, now)
      ]
      | inr past ↦
          let now : get_or (set lengths i n) j 0 ≡ get_or lengths j 0 = ap (λ (xs : List ℕ). get_or xs j 0) (set_past lengths i n past) in
          omega (arith, now)
    ]

none_waits : (count j : ℕ) → get_or (replicate count zero) j zero ≡ zero
none_waits count j =
    let long : length (replicate count zero) ≡ count = length-replicate count zero in
    elim (cases_lt j count) [
      | inl within ↦ get_or-replicate count j zero zero within
      | inr past ↦ let over : length (replicate count zero) ≤ j = omega arith in get_or_past (replicate count zero) j zero over
    ]

length_of_either : (j : ℕ) (b : Bool) (x y : State) (n : ℕ) → get_or x.queues j 0 ≤ n → get_or y.queues j 0 ≤ n → get_or (if b then x else y).queues j 0 ≤ n
length_of_either j true x y n first second = first
length_of_either j false x y n first second = second

length_dissolved : (lengths : List ℕ) (j : ℕ) → get_or (replicate (length lengths) 0) j 0 ≤ get_or lengths j 0
length_dissolved lengths j = let none : get_or (replicate (length lengths) 0) j 0 ≡ 0 = none_waits (length lengths) j in omega (arith, none)

length_decided : (state : State) (how : Decision) (j : ℕ) → get_or (decided state how).queues j 0 ≤ get_or state.queues j 0
unfolding decided dissolved
length_decided state (Lose home buddy) j = length_dissolved state.queues j
length_decided state WantMemory j = length_dissolved state.queues j
length_decided state Commit j =
    length_of_either j (state.epoch.target == state.steps) (ended state outcomes.Finished) (committed state) (get_or state.queues j 0)
    (length_dissolved state.queues j) (length_dissolved state.queues j)
length_decided state Restore j = length_dissolved state.queues j

length_settled : (state : State) (j : ℕ) → get_or (settled state).queues j 0 ≤ get_or state.queues j 0
unfolding settled
length_settled state j =
    let same : get_or state.queues j 0 ≤ get_or state.queues j 0 = omega arith in
    length_of_either j (is_ripe state) (decided state (decision state)) state (get_or state.queues j 0) (length_decided state (decision state) j) same

length_stopped : (state : State) (rank : ℕ) (stage : Stage) (j : ℕ) → get_or (settled (with_stage state rank stage)).queues j 0 ≤ get_or state.queues j 0 + 1
length_stopped state rank stage j =
    let fewer : get_or (settled (with_stage state rank stage)).queues j 0 ≤ get_or state.queues j 0 = length_settled (with_stage state rank stage) j in
    omega (arith, fewer)

-- a queue has one message more at most after an event
pub queues_grow : (state : State) (event : Event) (filled : Bool) (j : ℕ) → get_or (next state event filled).queues j 0 ≤ get_or state.queues j 0 + 1
queues_grow state (Send rank to blocks sum) filled j = length_after_set state.queues (channel state.ranks rank to) j _ (omega arith)
queues_grow state (Recv rank peer) filled j = length_after_set state.queues (channel state.ranks peer rank) j _ (omega arith)
queues_grow state (Arrive rank how) filled j = length_stopped state rank _ j
queues_grow state (Leave rank) filled j = omega arith
queues_grow state (Die rank) filled j = length_stopped state rank Dead j
