-- A number that every legal event of a lawful run lowers.
use Rattle.std.proofs.Common.{◌≡◌, ◌≢◌, ℕ, zero, suc, ◌+◌, ◌-◌, ◌*◌, ◌/◌, ◌%◌, ◌^◌, ◌<◌, ◌≤◌, Bool, true, false, ◌&&◌, ◌||◌, not, List, [], ◌∷◌, ◌++◌, map, filter, length, nat_lt, slice_set, arith, refl, sym, subst, ◌∙◌, ap, inl, inr}
use Rattle.std.specs.Prelude.{◌==◌, Option, Some, None, is_some, if◌then◌else◌, slice_get}
use Rattle.std.specs.List.{range_with_len}
use Rattle.std.proofs.Math.Nat.{mul-le-mul_left}
use Rattle.std.proofs.lemmas.Nat.{div-add-mod', div-mul-add, mod_below}
use Rattle.std.proofs.lemmas.Bool.{cases_eq, eq-eqb, ltb-true, ltb-false, not-true, and_parts}
use Rattle.std.proofs.lemmas.List.{get_or-set_same, get_or-set_other}
use Rattle.std.proofs.lemmas.List.Sums.{sum_by-le-sum_by}
use Rattle.std.proofs.lemmas.List.FromFn.{length-range_with_len}
use Rattle.std.proofs.lemmas.Option.{slice_get_within}
use Rattle.bf_core.proofs.LegalLemmas.{just_some}
use Rattle.bf_buddy.specs.Members.{is_member}
use Rattle.bf_buddy.specs.Losses.{first_lost_of}
use Rattle.bf_program.specs.declared.epoch.Epoch.{Epoch}
use Rattle.bf_program.specs.Epochs.{target_of, target_in}
use Rattle.bf_program.specs.Meanings.{Meanings}
use Rattle.bf_program.specs.Laws.{KeepsLimits, KeepsGood, KeepsStored, KeepsPeers}
use Rattle.bf_program.specs.Restores.{restored_locals}
use Rattle.bf_core.specs.declared.decision.Decision.{Decision}
use Rattle.bf_core.specs.declared.decision.Decision.TheVariants.{Lose, WantMemory, Commit, Restore}
use Rattle.bf_core.specs.declared.event.Event.{Event}
use Rattle.bf_core.specs.declared.event.Event.TheVariants.{Send, Recv, Arrive, Leave, Die}
use Rattle.bf_core.specs.declared.event.How.{How}
use Rattle.bf_core.specs.declared.event.How.TheVariants.{Done, Broken, Memory}
use Rattle.bf_core.specs.declared.outcome.Outcome.{Outcome}
use Rattle.bf_core.specs.declared.outcome.Outcome.TheVariants as outcomes
use Rattle.bf_core.specs.declared.place.Place.{Place}
use Rattle.bf_core.specs.declared.place.Place.TheVariants.{Rounds, Past}
use Rattle.bf_core.specs.declared.standing.Stage.{Stage}
use Rattle.bf_core.specs.declared.standing.Stage.TheVariants.{Running, Arrived, Leaving, Ended, Dead, Gone}
use Rattle.bf_core.specs.declared.standing.Standing.{Standing}
use Rattle.bf_core.specs.Stages.{is_done, is_leaving, is_awaited, is_short, is_dead, is_gone, has_finished_rounds, goes_on, lives, after_decision}
use Rattle.bf_core.specs.Places.{is_just, next_send, next_receive}
use Rattle.bf_core.specs.States.{State, stage, is_active, is_short_of_memory, has_everyone_arrived, live_members, opening}
use Rattle.bf_core.specs.Legal.{actor, is_legal}
use Rattle.bf_core.specs.Next.{with_stage, may_decide, happened, is_ripe, is_everyone_done, decision, decision_where, decided, settled, dissolved, ended, committed, restored, next}
use Rattle.bf_core.proofs.StageLemmas.{nobody, Someone, nobody_any, is_rank, stage_same, stage_other, stage_dissolved}
use Rattle.bf_core.proofs.SoundLemmas.{IsSound, acting, in_list, leaving_stage, not_gone, same_tests, active_of}
use Rattle.bf_core.proofs.ArrivalLemmas.{IsFair, is_broken, has_ended, happened_fair}
use Rattle.bf_core.proofs.LawLemmas.{IsStep, step_of, IsSameEpoch, same_epoch, running_where_ripe, next_settles, next_happens, ripe_decides, unripe_waits}
use Rattle.bf_world.specs.Course.{peers_at, place_with, place_from, after_send, after_receive}
use Rattle.bf_world.specs.Runs.{Run, place, begun, last_locals, opening_run, will_be_filled, run_happened, run_decided, run_settled, next_run, is_legal_in, run_from, is_legal_from, run_after, is_journal}
use Rattle.bf_world.specs.Worlds.{is_restore, brings_decision, brings_restore, restores_from, restores_in}
use Rattle.bf_world.proofs.StopLemmas.{no_restore}
use Rattle.bf_world.specs.Weights.{peers_left, steps_left, intervals_in, left_of, epochs_left, most_left, left_of_rank, total, bound, weight_within, weight, most_events}
use Rattle.bf_world.proofs.LawfulLemmas.{IsSteady, IsLawful, next_lawful, opening_lawful, after_lawful, core_next}
use Rattle.bf_world.proofs.PeerLemmas.{peers_rise, peer_is_other}
use Rattle.bf_world.proofs.PlaceLemmas.{IsPlaced, receives_at}
use Rattle.bf_world.proofs.RangeLemmas.{sums_less, rising_fewer, sums_within, filter_fewer}
use Rattle.bf_core.proofs.ListLemmas.{in_filtered, fails_at}
use Rattle.bf_world.proofs.RunLemmas.{run_more, ripe_next}
use Rattle.bf_world.proofs.WaitingLemmas.{below_end}

-- the target of every epoch is its own time where a restore began it, else the one of its time
pub record IsTimed (state : State) : Type 0 where
  pub target : state.epoch.target ≡ target_in state.steps state.interval state.epoch

happened_timed : (state : State) (event : Event) (filled : Bool) → IsTimed state → IsTimed (happened state event filled)
happened_timed state (Send rank to blocks sum) filled timed = record { target = timed.target }
happened_timed state (Recv rank peer) filled timed = record { target = timed.target }
happened_timed state (Arrive rank how) filled timed = record { target = timed.target }
happened_timed state (Leave rank) filled timed = record { target = timed.target }
happened_timed state (Die rank) filled timed = record { target = timed.target }

decided_timed : (state : State) (made : Decision) → IsTimed state → IsTimed (decided state made)
unfolding decided dissolved
decided_timed state (Lose home buddy) timed = record { target = timed.target }
decided_timed state WantMemory timed = record { target = timed.target }
decided_timed state Commit timed = at_end (state.epoch.target == state.steps)
  where
    at_end : (b : Bool) → IsTimed (if b then ended state outcomes.Finished else committed state)
    at_end true = record { target = timed.target }
    at_end false = record { target = refl }
decided_timed state Restore timed = record { target = refl }

settled_timed : (state : State) → IsTimed state → IsTimed (settled state)
unfolding settled
settled_timed state timed = by_ripe (is_ripe state)
  where
    by_ripe : (b : Bool) → IsTimed (if b then decided state (decision state) else state)
    by_ripe true = decided_timed state (decision state) timed
    by_ripe false = timed

-- no event changes that, legal or not
pub next_timed : (state : State) (event : Event) (filled : Bool) → IsTimed state → IsTimed (next state event filled)
next_timed state event filled timed = by_event (may_decide event)
  where
    by_event : (b : Bool) → IsTimed (if b then settled (happened state event filled) else happened state event filled)
    by_event true = settled_timed (happened state event filled) (happened_timed state event filled timed)
    by_event false = happened_timed state event filled timed

pub opening_timed : (ranks : ℕ) (filled : List ℕ) (dies : List (ℕ × ℕ)) (shift steps interval : ℕ) → IsTimed (opening ranks filled dies shift steps interval)
unfolding opening
opening_timed ranks filled dies shift steps interval = record { target = refl }

-- a restore is decided only beside a dead member

undone_where_restored : (state : State) → decision state ≡ Restore → (is_short_of_memory state ≡ false) × (is_everyone_done state ≡ false)
unfolding decision
undone_where_restored state restores = by_loss (first_lost_of state.epoch.homes state.stored (live_members state) state.shift) restores
  where
    by_done : (b : Bool) → (if b then Commit else Restore) ≡ Restore → b ≡ false
    by_done true commits = absurd (cc)
    by_done false _ = refl

    by_short : (b : Bool) → (if b then WantMemory else (if is_everyone_done state then Commit else Restore)) ≡ Restore → (b ≡ false) × (is_everyone_done state ≡ false)
    by_short true wants = absurd (cc)
    by_short false restore = (refl, by_done (is_everyone_done state) restore)

    by_loss : (lost : Option (ℕ × ℕ)) → decision_where lost state ≡ Restore → (is_short_of_memory state ≡ false) × (is_everyone_done state ≡ false)
    by_loss (Some lost) loses = absurd (cc)
    by_loss None restore = by_short (is_short_of_memory state) restore

pub someone_dead : (state : State) → is_ripe state ≡ true → IsFair state → decision state ≡ Restore → Someone is_dead state
someone_dead state ripe fair restores =
    by_stage (stage state undone.0) refl
  where
    none : state.outcome ≡ None
    none = running_where_ripe state ripe

    undone : (rank : ℕ) × ((rank < length state.standings) × ((is_gone (stage state rank) || has_finished_rounds (stage state rank)) ≡ false))
    undone = fails_at {X = Standing} (λ s. is_gone s.stage || has_finished_rounds s.stage) state.standings nobody (undone_where_restored state restores).1

    awaits : is_awaited (stage state undone.0) ≡ false
    awaits = nobody_any is_awaited state refl (not-true _ (and_parts (not (is_some state.outcome)) (has_everyone_arrived state) ripe).1) undone.0

    fits : is_short (stage state undone.0) ≡ false
    fits = nobody_any is_short state refl (undone_where_restored state restores).0 undone.0

    by_how : (how : How) (filled : Bool) → stage state undone.0 ≡ Arrived how filled → Someone is_dead state
    by_how Done filled at = absurd (let e : true ≡ false = ap (λ s. is_gone s || has_finished_rounds s) (sym at) ∙ undone.1.1 in cc)
    by_how Broken filled at = fair.broken undone.0 (ap is_broken at)
    by_how Memory filled at = absurd (let e : true ≡ false = ap is_short (sym at) ∙ fits in cc)

    by_stage : (s : Stage) → stage state undone.0 ≡ s → Someone is_dead state
    by_stage Running at = absurd (let e : true ≡ false = ap is_awaited (sym at) ∙ awaits in cc)
    by_stage (Arrived how filled) at = by_how how filled at
    by_stage Leaving at = absurd (let e : true ≡ false = ap is_awaited (sym at) ∙ awaits in cc)
    by_stage Ended at = absurd (let e : true ≡ false = ap has_ended (sym at) ∙ fair.unended none undone.0 in cc)
    by_stage Dead at = (undone.0, (undone.1.0, ap is_dead at))
    by_stage Gone at = absurd (let e : true ≡ false = ap (λ s. is_gone s || has_finished_rounds s) (sym at) ∙ undone.1.1 in cc)

-- a member that does not live
abbrev pub Missing : State → Type 0
Missing state = (rank : ℕ) × ((is_member state.epoch.members rank ≡ true) × (lives (stage state rank) ≡ false))

dead_lives : (s : Stage) → is_dead s ≡ true → (lives s ≡ false) × (is_gone s ≡ false)
dead_lives Running still = absurd (cc)
dead_lives (Arrived how filled) still = absurd (cc)
dead_lives Leaving still = absurd (cc)
dead_lives Ended still = absurd (cc)
dead_lives Dead _ = (refl, refl)
dead_lives Gone still = absurd (cc)

-- a restore is decided only where some member does not live
restore_missing : (state : State) (event : Event) (at : Place) (filled : Bool) → IsSound state → IsFair state → is_legal state event at ≡ true
    → is_ripe (happened state event filled) ≡ true → decision (happened state event filled) ≡ Restore → Missing (happened state event filled)
restore_missing state event at filled sound fair legal ripe restores =
    (dead.0, (ap (λ members. is_member members dead.0) members ∙ in_filtered (λ rank. not (is_gone (stage state rank))) 0 state.ranks dead.0 (omega arith) (omega (arith, within)) (ap not here), life.0))
  where
    dead : Someone is_dead (happened state event filled)
    dead = someone_dead (happened state event filled) ripe (happened_fair state event at filled legal fair) restores

    life : (lives (stage (happened state event filled) dead.0) ≡ false) × (is_gone (stage (happened state event filled) dead.0) ≡ false)
    life = dead_lives (stage (happened state event filled) dead.0) dead.1.1

    step : IsStep state event filled
    step = step_of state event at filled legal

    same : IsSameEpoch state (happened state event filled)
    same = same_epoch state event filled

    here : is_gone (stage state dead.0) ≡ false
    here = sym (same_tests is_gone state (happened state event filled) (actor event) step.to step.moved (step.stays ∙ sym (not_gone (stage state (actor event)) step.went)) dead.0) ∙ life.1

    members : (happened state event filled).epoch.members ≡ filter (λ rank. not (is_gone (stage state rank))) (range_with_len 0 state.ranks)
    members = ap (λ epoch. epoch.members) same.epoch ∙ sound.members (sym same.outcome ∙ running_where_ripe (happened state event filled) ripe)

    within : dead.0 < state.ranks
    within = omega (arith, is_rank (λ s. not (is_gone s)) state dead.0 refl (ap not here), sound.size)

-- a restore leaves a member behind
members_decided : (state : State) (made : Decision) → (made ≡ Restore → Missing state)
    → (if is_restore true made then 1 else 0) + length (decided state made).epoch.members ≤ length state.epoch.members
unfolding decided dissolved live_members
members_decided state (Lose home buddy) missing = omega arith
members_decided state WantMemory missing = omega arith
members_decided state Commit missing = at_end (state.epoch.target == state.steps)
  where
    at_end : (b : Bool) → 0 + length (if b then ended state outcomes.Finished else committed state).epoch.members ≤ length state.epoch.members
    at_end true = omega arith
    at_end false = omega arith
members_decided state Restore missing =
    omega (arith, filter_fewer (λ rank. lives (stage state rank)) state.epoch.members (missing refl).0 (missing refl).1.0 (missing refl).1.1)

members_next : (state : State) (event : Event) (at : Place) (filled : Bool) → IsSound state → IsFair state → is_legal state event at ≡ true
    → (if is_restore (may_decide event && is_ripe (happened state event filled)) (decision (happened state event filled)) then 1 else 0) + length (next state event filled).epoch.members
    ≤ length state.epoch.members
members_next state event at filled sound fair legal = by_event (may_decide event) refl
  where
    same : length (happened state event filled).epoch.members ≡ length state.epoch.members
    same = ap (λ epoch. length epoch.members) (same_epoch state event filled).epoch

    quiet : (after : State) → after ≡ happened state event filled → (b : Bool) → b ≡ false → (if b then 1 else 0) + length after.epoch.members ≤ length state.epoch.members
    quiet after is true still = absurd (cc)
    quiet after is false _ = omega (arith, same, ap (λ s. length s.epoch.members) is)

    by_ripe : (b : Bool) → is_ripe (happened state event filled) ≡ b
        → (if is_restore b (decision (happened state event filled)) then 1 else 0) + length (settled (happened state event filled)).epoch.members ≤ length state.epoch.members
    by_ripe true ripe =
        let P : State → Type 0 = λ after. (if is_restore true (decision (happened state event filled)) then 1 else 0) + length after.epoch.members ≤ length state.epoch.members in
        subst P (sym (ripe_decides (happened state event filled) ripe))
        (omega (arith, same, members_decided (happened state event filled) (decision (happened state event filled)) (restore_missing state event at filled sound fair legal ripe)))
    by_ripe false unripe = quiet _ (unripe_waits (happened state event filled) unripe) _ (no_restore (decision (happened state event filled)))

    by_event : (b : Bool) → may_decide event ≡ b
        → (if is_restore (b && is_ripe (happened state event filled)) (decision (happened state event filled)) then 1 else 0) + length (next state event filled).epoch.members
        ≤ length state.epoch.members
    by_event true may =
        let P : State → Type 0 = λ after. (if is_restore (is_ripe (happened state event filled)) (decision (happened state event filled)) then 1 else 0) + length after.epoch.members ≤ length state.epoch.members in
        subst P (sym (next_settles state event filled may)) (by_ripe (is_ripe (happened state event filled)) refl)
    by_event false may = quiet _ (next_happens state event filled may) _ (no_restore (decision (happened state event filled)))

-- what is left of a rank's course in an epoch

module _ {S L M T R : Type 0} (m : Meanings S L M T R) (setup : S) (epoch : Epoch) (start : List L) where
  none_past : (rank : ℕ) → steps_left m setup epoch start rank Past ≡ 0
  unfolding steps_left
  none_past rank = refl

  steps_in : (rank round sent received : ℕ) (peers : List ℕ) → steps_left m setup epoch start rank (Rounds round sent received peers)
      ≡ 2 * (length peers + peers_left m setup epoch start rank (m.rounds setup epoch - (round + 1)) (round + 1)) - (sent + received)
  unfolding steps_left
  steps_in rank round sent received peers = refl

  peers_left_more : (rank left round : ℕ) → peers_left m setup epoch start rank (suc left) round ≡ length (peers_at m setup epoch start rank round) + peers_left m setup epoch start rank left (round + 1)
  unfolding peers_left
  peers_left_more rank left round = refl

  no_peers_left : (rank round : ℕ) → peers_left m setup epoch start rank zero round ≡ 0
  unfolding peers_left
  no_peers_left rank round = refl

  -- from the beginning of a round, two for each peer
  pub steps_from : (rank left round : ℕ) → round + left ≡ m.rounds setup epoch → steps_left m setup epoch start rank (place_from m setup epoch start rank left round) ≡ 2 * peers_left m setup epoch start rank left round
  unfolding place_from
  steps_from rank zero round whole = none_past rank ∙ ap (λ n. 2 * n) (sym (no_peers_left rank round))
  steps_from rank (suc left) round whole =
      by_peers (peers_at m setup epoch start rank round) refl (steps_from rank left (round + 1) (omega arith))
    where
      by_peers : (peers : List ℕ) → peers_at m setup epoch start rank round ≡ peers
          → steps_left m setup epoch start rank (place_from m setup epoch start rank left (round + 1)) ≡ 2 * peers_left m setup epoch start rank left (round + 1)
          → steps_left m setup epoch start rank (place_with round peers (place_from m setup epoch start rank left (round + 1))) ≡ 2 * peers_left m setup epoch start rank (suc left) round
      by_peers [] none later = omega (arith, later, peers_left_more rank left round, ap length none)
      by_peers (peer ∷ peers) some later =
          let rest : m.rounds setup epoch - (round + 1) ≡ left = omega (arith, whole) in
          omega (
            arith,
            steps_in rank round 0 0 (peer ∷ peers),
            ap (λ n. peers_left m setup epoch start rank n (round + 1)) rest,
            peers_left_more rank left round,
            ap length some,
          )

  -- a send is one step
  pub send_steps : (rank : ℕ) (place : Place) (to : ℕ) → IsPlaced m setup epoch start rank place → next_send place ≡ Some to
      → steps_left m setup epoch start rank (after_send place) + 1 ≡ steps_left m setup epoch start rank place
  send_steps rank Past to placed sends = absurd (cc)
  send_steps rank (Rounds round sent received peers) to placed sends =
      let below : sent < length peers = slice_get_within peers sent to sends in
      omega (arith, steps_in rank round sent received peers, steps_in rank round (sent + 1) received peers, below, placed.in_turn below)

  -- so is a receive
  pub receive_steps : (rank : ℕ) (place : Place) (peer : ℕ) → IsPlaced m setup epoch start rank place → next_receive place ≡ Some peer
      → steps_left m setup epoch start rank (after_receive m setup epoch start rank place) + 1 ≡ steps_left m setup epoch start rank place
  receive_steps rank Past peer placed receives = absurd (cc)
  receive_steps rank (Rounds round sent received peers) peer placed receives = by_last (nat_lt (received + 1) (length peers)) refl
    where
      at : (length peers ≤ sent) × (slice_get peers received ≡ Some peer)
      at = receives_at m setup epoch start round sent received peer peers receives

      by_last : (b : Bool) → nat_lt (received + 1) (length peers) ≡ b
          → steps_left m setup epoch start rank (if b then Rounds round sent (received + 1) peers else place_from m setup epoch start rank (m.rounds setup epoch - (round + 1)) (round + 1)) + 1
          ≡ steps_left m setup epoch start rank (Rounds round sent received peers)
      by_last true more =
          omega (arith, steps_in rank round sent received peers, steps_in rank round sent (received + 1) peers, placed.sends, ltb-true (received + 1) (length peers) more)
      by_last false last =
          omega (
            arith,
            steps_in rank round sent received peers,
            steps_from rank (m.rounds setup epoch - (round + 1)) (round + 1) (omega (arith, placed.within)),
            placed.sends,
            placed.receives,
            at.0,
            ltb-false (received + 1) (length peers) last,
          )

  peers_left_most : (most rank left round : ℕ) → ((k : ℕ) → k < m.rounds setup epoch → length (peers_at m setup epoch start rank k) ≤ most)
      → round + left ≡ m.rounds setup epoch → peers_left m setup epoch start rank left round ≤ left * most
  peers_left_most most rank zero round few whole = omega (arith, no_peers_left rank round)
  peers_left_most most rank (suc left) round few whole =
      omega (arith, peers_left_more rank left round, few round (omega (arith, whole)), peers_left_most most rank left (round + 1) few (omega (arith, whole)))

  -- where no round has more peers than some number, a place has no more steps before it than twice that in each round
  pub steps_most : (most rank : ℕ) (place : Place) → ((k : ℕ) → k < m.rounds setup epoch → length (peers_at m setup epoch start rank k) ≤ most)
      → IsPlaced m setup epoch start rank place → steps_left m setup epoch start rank place ≤ 2 * (m.rounds setup epoch * most)
  steps_most most rank Past few placed = omega (arith, none_past rank)
  steps_most most rank (Rounds round sent received peers) few placed =
      let within : round < m.rounds setup epoch = placed.within in
      let later : peers_left m setup epoch start rank (m.rounds setup epoch - (round + 1)) (round + 1) ≤ (m.rounds setup epoch - (round + 1)) * most =
      peers_left_most most rank (m.rounds setup epoch - (round + 1)) (round + 1) few (omega (arith, within)) in
      let here : length peers ≤ most = subst (λ (xs : List ℕ). length xs ≤ most) (sym placed.peers_are) (few round within) in
      let all : (m.rounds setup epoch - (round + 1)) * most + most ≤ m.rounds setup epoch * most = one_more (m.rounds setup epoch - (round + 1)) (m.rounds setup epoch) most (omega (arith, within)) in
      omega (arith, steps_in rank round sent received peers, later, here, all)
    where
      one_more : (a b n : ℕ) → a + 1 ≤ b → a * n + n ≤ b * n
      one_more a b n less = omega (arith, mul-le-mul_left n less)

-- the weight of a run

left_most : (over : Bool) (s : Stage) (steps : ℕ) → left_of over s steps ≤ 3 + steps
left_most over Running steps = omega arith
left_most over (Arrived how filled) steps = omega arith
left_most true Leaving steps = omega arith
left_most false Leaving steps = omega arith
left_most over Ended steps = omega arith
left_most over Dead steps = omega arith
left_most over Gone steps = omega arith

arrive_lowers : (over : Bool) (s : Stage) (steps : ℕ) → s ≡ Running → 1 < left_of over s steps
arrive_lowers over s steps runs = let P : Stage → Type 0 = λ t. 1 < left_of over t steps in subst P (sym runs) (omega arith)

leave_lowers : (over : Bool) (s : Stage) (steps : ℕ) → s ≡ Leaving → left_of over (if over then Ended else Running) steps < left_of over s steps
leave_lowers over s steps leaving = let P : Stage → Type 0 = λ t. left_of over (if over then Ended else Running) steps < left_of over t steps in subst P (sym leaving) (by_end over)
  where
    by_end : (b : Bool) → left_of b (if b then Ended else Running) steps < left_of b Leaving steps
    by_end true = omega arith
    by_end false = omega arith

die_lowers : (over : Bool) (s : Stage) (steps : ℕ) → goes_on s ≡ true → 0 < left_of over s steps
die_lowers over Running steps goes = omega arith
die_lowers over (Arrived how filled) steps goes = omega arith
die_lowers true Leaving steps goes = omega arith
die_lowers false Leaving steps goes = omega arith
die_lowers over Ended steps rests = absurd (cc)
die_lowers over Dead steps rests = absurd (cc)
die_lowers over Gone steps rests = absurd (cc)

end_lowers : (s : Stage) (steps : ℕ) → left_of true (after_decision s) steps ≤ left_of false s steps
end_lowers Running steps = omega arith
end_lowers (Arrived how filled) steps = omega arith
end_lowers Leaving steps = omega arith
end_lowers Ended steps = omega arith
end_lowers Dead steps = omega arith
end_lowers Gone steps = omega arith

module _ {S L M T R : Type 0} (m : Meanings S L M T R) (setup : S) where
  -- one rank has less left, and no other more
  moved_less : (before after : Run L T) (rank : ℕ) → rank < m.ranks setup → ((other : ℕ) → other ≢ rank → left_of_rank m setup after other ≡ left_of_rank m setup before other)
      → left_of_rank m setup after rank < left_of_rank m setup before rank → total m setup after < total m setup before
  unfolding total
  moved_less before after rank within others less = sums_less (left_of_rank m setup before) (left_of_rank m setup after) 0 (m.ranks setup) rank each less (omega arith) (omega (arith, within))
    where
      each : (i : ℕ) → left_of_rank m setup after i ≤ left_of_rank m setup before i
      each i = elim (cases_eq i rank) [
        | inl e ↦ let P : ℕ → Type 0 = λ r. left_of_rank m setup after r ≤ left_of_rank m setup before r in
            let here : left_of_rank m setup after rank ≤ left_of_rank m setup before rank = omega (arith, less) in subst P (sym e) here
        | inr differs ↦ omega (arith, others i differs)
      ]

  left_at : (run : Run L T) (rank : ℕ) (s : Stage) (to : Place) → stage run.core rank ≡ s → place run rank ≡ to
      → left_of_rank m setup run rank ≡ left_of (is_some run.core.outcome) s (steps_left m setup run.core.epoch run.start rank to)
  unfolding left_of_rank
  left_at run rank s to at stands =
      ap (λ t. left_of (is_some run.core.outcome) t (steps_left m setup run.core.epoch run.start rank (place run rank))) at
      ∙ ap (λ p. left_of (is_some run.core.outcome) s (steps_left m setup run.core.epoch run.start rank p)) stands

  left_is : (run : Run L T) (rank : ℕ) → left_of_rank m setup run rank ≡ left_of (is_some run.core.outcome) (stage run.core rank) (steps_left m setup run.core.epoch run.start rank (place run rank))
  left_is run rank = left_at run rank (stage run.core rank) (place run rank) refl refl

  -- a rank is at another stage, and stands where it stood
  staged_less : (run : Run L T) (parcels : List (ℕ × T)) (rank : ℕ) (to : Stage) → rank < length run.core.standings → rank < m.ranks setup
      → left_of (is_some run.core.outcome) to (steps_left m setup run.core.epoch run.start rank (place run rank))
      < left_of (is_some run.core.outcome) (stage run.core rank) (steps_left m setup run.core.epoch run.start rank (place run rank))
      → total m setup (record { core = with_stage run.core rank to; start = run.start; places = run.places; parcels = parcels }) < total m setup run
  staged_less run parcels rank to listed within less = moved_less run after rank within
      (λ other differs. left_at after other (stage run.core other) (place run other) (stage_other run.core rank other to differs) refl ∙ sym (left_is run other))
      (omega (arith, left_at after rank to (place run rank) (stage_same run.core rank to listed) refl, left_is run rank, less))
    where
      after : Run L T
      after = record { core = with_stage run.core rank to; start = run.start; places = run.places; parcels = parcels }

  -- a rank that does its rounds stands elsewhere
  stepped_less : (run : Run L T) (queues : List ℕ) (parcels : List (ℕ × T)) (rank : ℕ) (to : Place) → stage run.core rank ≡ Running
      → rank < length run.core.standings → rank < length run.places → rank < m.ranks setup
      → steps_left m setup run.core.epoch run.start rank to + 1 ≡ steps_left m setup run.core.epoch run.start rank (place run rank)
      → total m setup (record {
        core = record (with_stage run.core rank (stage run.core rank)) { queues = queues };
        start = run.start;
        places = slice_set run.places rank to;
        parcels = parcels;
      }) < total m setup run
  stepped_less run queues parcels rank to runs listed placed within less = moved_less run after rank within
      (λ other differs. left_at after other (stage run.core other) (place run other) (stage_other run.core rank other (stage run.core rank) differs)
      (get_or-set_other run.places rank other to Past differs) ∙ sym (left_is run other))
      (omega (
        arith,
        left_at after rank Running to (stage_same run.core rank (stage run.core rank) listed ∙ runs) (get_or-set_same run.places rank to Past placed),
        left_at run rank Running (place run rank) runs refl,
        less,
      ))
    where
      after : Run L T
      after = record {
        core = record (with_stage run.core rank (stage run.core rank)) { queues = queues };
        start = run.start;
        places = slice_set run.places rank to;
        parcels = parcels;
      }

epochs_same : (state : State) (event : Event) (filled : Bool) → epochs_left (happened state event filled) ≡ epochs_left state
unfolding epochs_left
epochs_same state (Send rank to blocks sum) filled = refl
epochs_same state (Recv rank peer) filled = refl
epochs_same state (Arrive rank how) filled = refl
epochs_same state (Leave rank) filled = refl
epochs_same state (Die rank) filled = refl

-- an interval more
one_more_interval : (time interval : ℕ) → 1 ≤ interval → intervals_in (time + interval) interval ≡ intervals_in time interval + 1
one_more_interval time interval some =
    let n : ℕ = time + (interval - 1) in
    let whole : n / interval * interval + n % interval ≡ n = div-add-mod' n interval in
    let below : n % interval < interval = mod_below n interval (omega (arith, some)) in
    let more : (n / interval + 1) * interval ≡ n / interval * interval + interval = one_row (n / interval) interval in
    ap (λ k. k / interval) (let e : (time + interval) + (interval - 1) ≡ (n / interval + 1) * interval + n % interval = omega (arith, whole, more, some) in e)
    ∙ div-mul-add (n / interval + 1) interval (n % interval) below
  where
    one_row : (a w : ℕ) → (a + 1) * w ≡ a * w + w
    one_row a w = omega arith

-- a commit that goes on moves the time
commit_epochs : (steps time target interval members : ℕ) (is_restored : Bool) → target ≡ (if is_restored then time else target_of steps interval time) → 1 ≤ interval → (target == steps) ≡ false
    → intervals_in (steps - target) interval + 2 * members + 0 + 1 ≤ intervals_in (steps - time) interval + 2 * members + (if is_restored then 1 else 0)
commit_epochs steps time target interval members true timed some unended = omega (arith, ap (λ t. intervals_in (steps - t) interval) timed)
commit_epochs steps time target interval members false timed some unended = elim (cases_eq target steps) [
  | inl same ↦ absurd (let e : true ≡ false = sym (eq-eqb target steps same) ∙ unended in cc)
  | inr other ↦
      let apart : steps - time ≡ (steps - target) + interval = omega (arith, timed, some, other) in
      omega (arith, ap (λ n. intervals_in n interval) apart ∙ one_more_interval (steps - target) interval some)
]

committed_epochs : (state : State) → state.outcome ≡ None → IsTimed state → 1 ≤ state.interval → (state.epoch.target == state.steps) ≡ false
    → epochs_left (committed state) + 1 ≤ epochs_left state
unfolding epochs_left dissolved
committed_epochs state none timed some unended =
    rw (ap (λ o. is_some o) none)
    (commit_epochs state.steps state.epoch.time state.epoch.target state.interval (length state.epoch.members) state.epoch.restored timed.target some unended)

restored_epochs : (state : State) → state.outcome ≡ None → Missing state → epochs_left (restored state) + 1 ≤ epochs_left state
unfolding epochs_left dissolved live_members
restored_epochs state none missing =
    let fewer : length (filter (λ rank. lives (stage state rank)) state.epoch.members) < length state.epoch.members =
    filter_fewer (λ rank. lives (stage state rank)) state.epoch.members missing.0 missing.1.0 missing.1.1 in
    rw (ap (λ o. is_some o) none) (one_less (length (filter (λ rank. lives (stage state rank)) state.epoch.members)) (length state.epoch.members) (intervals_in (state.steps - state.epoch.time) state.interval) state.epoch.restored fewer)
  where
    one_less : (few members intervals : ℕ) (b : Bool) → few < members → intervals + 2 * few + 1 + 1 ≤ intervals + 2 * members + (if b then 1 else 0)
    one_less few members intervals true fewer = omega (arith, fewer)
    one_less few members intervals false fewer = omega (arith, fewer)

ended_epochs : (state : State) (outcome : Outcome) → epochs_left (ended state outcome) ≡ 0
unfolding epochs_left dissolved
ended_epochs state outcome = refl

module _ {S L M T R : Type 0} (m : Meanings S L M T R) (good : S → Epoch → ℕ → List L → Type 0) (setup : S) (rounds : ℕ) where
  -- before any decision, an event leaves less of its rank
  happened_less : (run : Run L T) (event : Event) → IsSteady m good setup run → IsSound run.core → is_legal run.core event (place run (actor event)) ≡ true
      → total m setup (run_happened m setup run event) < total m setup run
  happened_less run (Send rank to blocks sum) steady sound legal =
      let runs : stage run.core rank ≡ Running = acting run.core rank (and_parts (is_active run.core rank) _ legal).0 in
      let listed : rank < length run.core.standings = in_list run.core rank runs in
      let sends : next_send (place run rank) ≡ Some to = just_some _ to (and_parts (is_active run.core rank) _ legal).1 in
      stepped_less m setup run _ _ rank (after_send (place run rank)) runs listed
      (omega (arith, listed, steady.size, steady.ranks, sound.size)) (omega (arith, listed, steady.ranks, sound.size))
      (send_steps m setup run.core.epoch run.start rank (place run rank) to (steady.placed rank) sends)
  happened_less run (Recv rank peer) steady sound legal =
      let active : is_active run.core rank && is_just (next_receive (place run rank)) peer ≡ true =
      (and_parts (is_active run.core rank && is_just (next_receive (place run rank)) peer) _ legal).0 in
      let runs : stage run.core rank ≡ Running = acting run.core rank (and_parts (is_active run.core rank) _ active).0 in
      let listed : rank < length run.core.standings = in_list run.core rank runs in
      let receives : next_receive (place run rank) ≡ Some peer = just_some _ peer (and_parts (is_active run.core rank) _ active).1 in
      stepped_less m setup run _ _ rank (after_receive m setup run.core.epoch run.start rank (place run rank)) runs listed
      (omega (arith, listed, steady.size, steady.ranks, sound.size)) (omega (arith, listed, steady.ranks, sound.size))
      (receive_steps m setup run.core.epoch run.start rank (place run rank) peer (steady.placed rank) receives)
  happened_less run (Arrive rank how) steady sound legal =
      let runs : stage run.core rank ≡ Running = acting run.core rank (active_of run.core rank how (place run rank) legal) in
      let listed : rank < length run.core.standings = in_list run.core rank runs in
      staged_less m setup run _ rank (Arrived how (is_done how && will_be_filled m setup run rank)) listed (omega (arith, listed, steady.ranks, sound.size))
      (arrive_lowers (is_some run.core.outcome) (stage run.core rank) _ runs)
  happened_less run (Leave rank) steady sound legal =
      let leaving : stage run.core rank ≡ Leaving = leaving_stage run.core rank (and_parts (is_leaving (stage run.core rank)) _ legal).0 in
      let listed : rank < length run.core.standings = is_rank is_leaving run.core rank refl (ap is_leaving leaving) in
      staged_less m setup run _ rank (if is_some run.core.outcome then Ended else Running) listed (omega (arith, listed, steady.ranks, sound.size))
      (leave_lowers (is_some run.core.outcome) (stage run.core rank) _ leaving)
  happened_less run (Die rank) steady sound legal =
      let goes : goes_on (stage run.core rank) ≡ true = (and_parts (goes_on (stage run.core rank)) _ legal).0 in
      let listed : rank < length run.core.standings = is_rank goes_on run.core rank refl goes in
      staged_less m setup run _ rank Dead listed (omega (arith, listed, steady.ranks, sound.size)) (die_lowers (is_some run.core.outcome) (stage run.core rank) _ goes)

  happened_weight : (run : Run L T) (event : Event) → IsSteady m good setup run → IsSound run.core → is_legal run.core event (place run (actor event)) ≡ true
      → weight_within m setup rounds (run_happened m setup run event) < weight_within m setup rounds run
  unfolding weight_within
  happened_weight run event steady sound legal =
      omega (
        arith,
        happened_less run event steady sound legal,
        ap (λ n. bound m setup rounds * n) (epochs_same run.core event (will_be_filled m setup run (actor event))),
      )

  -- after an end no epoch is left, and of no rank more
  ended_weight : (run : Run L T) (outcome : Outcome) → run.core.outcome ≡ None → weight_within m setup rounds (record run { core = ended run.core outcome }) ≤ weight_within m setup rounds run
  unfolding weight_within total dissolved
  ended_weight run outcome none =
      omega (
        arith,
        ap (λ n. bound m setup rounds * n) (ended_epochs run.core outcome),
        sum_by-le-sum_by (left_of_rank m setup after) (left_of_rank m setup run) (range_with_len 0 (m.ranks setup)) each,
      )
    where
      after : Run L T
      after = record run { core = ended run.core outcome }

      each : (rank : ℕ) → left_of_rank m setup after rank ≤ left_of_rank m setup run rank
      each rank =
          let was : left_of_rank m setup run rank ≡ left_of false (stage run.core rank) (steps_left m setup run.core.epoch run.start rank (place run rank)) =
          left_is m setup run rank ∙ ap (λ o. left_of (is_some o) (stage run.core rank) (steps_left m setup run.core.epoch run.start rank (place run rank))) none in
          omega (
            arith,
            left_at m setup after rank (after_decision (stage run.core rank)) (place run rank) (stage_dissolved run.core rank) refl,
            was,
            end_lowers (stage run.core rank) (steps_left m setup run.core.epoch run.start rank (place run rank)),
          )

  -- where an epoch less is left, anything may be left of the ranks
  epoch_weight : (before after : Run L T) → epochs_left after.core + 1 ≤ epochs_left before.core → total m setup after ≤ bound m setup rounds
      → weight_within m setup rounds after ≤ weight_within m setup rounds before
  unfolding weight_within
  epoch_weight before after fewer small = omega (arith, small, mul-le-mul_left (bound m setup rounds) fewer)

  decided_weight : (run : Run L T) (made : Decision) → run.core.outcome ≡ None → IsTimed run.core → 1 ≤ run.core.interval
      → (made ≡ Restore → Missing run.core)
      → ((run_decided m setup run made).core.outcome ≡ None → total m setup (run_decided m setup run made) ≤ bound m setup rounds)
      → weight_within m setup rounds (run_decided m setup run made) ≤ weight_within m setup rounds run
  unfolding decided dissolved
  decided_weight run (Lose home buddy) none timed some missing small = ended_weight run (outcomes.Lost run.core.epoch.time home buddy) none
  decided_weight run WantMemory none timed some missing small = ended_weight run outcomes.Memory none
  decided_weight run Commit none timed some missing small = at_end (run.core.epoch.target == run.core.steps) refl small
    where
      after : Bool → Run L T
      after b = if b then record run { core = if b then ended run.core outcomes.Finished else committed run.core }
          else begun m setup (if b then ended run.core outcomes.Finished else committed run.core) (map m.keep (last_locals m setup run)) run.parcels

      at_end : (b : Bool) → (run.core.epoch.target == run.core.steps) ≡ b → ((after b).core.outcome ≡ None → total m setup (after b) ≤ bound m setup rounds)
          → weight_within m setup rounds (after b) ≤ weight_within m setup rounds run
      at_end true ends _ = ended_weight run outcomes.Finished none
      at_end false unended few = epoch_weight run (begun m setup (committed run.core) (map m.keep (last_locals m setup run)) run.parcels)
          (committed_epochs run.core none timed some unended) (few none)
  decided_weight run Restore none timed some missing small =
      epoch_weight run (begun m setup (restored run.core) (restored_locals m setup run.core.epoch (λ rank. lives (stage run.core rank)) run.start) [])
      (restored_epochs run.core none (missing refl)) (small none)

-- an event keeps the interval
happened_interval : (state : State) (event : Event) (filled : Bool) → (happened state event filled).interval ≡ state.interval
happened_interval state (Send rank to blocks sum) filled = refl
happened_interval state (Recv rank peer) filled = refl
happened_interval state (Arrive rank how) filled = refl
happened_interval state (Leave rank) filled = refl
happened_interval state (Die rank) filled = refl

module _ {S L M T R : Type 0} (m : Meanings S L M T R) (setup : S) where
  opening_members : length (opening_run {T = T} m setup).core.epoch.members ≡ m.ranks setup
  unfolding opening_run opening
  opening_members = length-range_with_len 0 (m.ranks setup)

  opening_unended : (opening_run {T = T} m setup).core.outcome ≡ None
  unfolding opening_run opening
  opening_unended = refl

  opening_epochs : epochs_left (opening_run {T = T} m setup).core ≡ intervals_in (m.steps setup) (m.interval setup) + 2 * m.ranks setup + 0
  unfolding epochs_left opening_run opening
  opening_epochs =
      let all : m.steps setup - 0 ≡ m.steps setup = omega arith in
      ap (λ n. intervals_in n (m.interval setup) + 2 * length (range_with_len 0 (m.ranks setup)) + 0) all
      ∙ ap (λ n. intervals_in (m.steps setup) (m.interval setup) + 2 * n + 0) (length-range_with_len 0 (m.ranks setup))

module _ {S L M T R : Type 0} (m : Meanings S L M T R) (good : S → Epoch → ℕ → List L → Type 0) (setup : S)
    (goods : KeepsGood m good setup) (stores : KeepsStored m good setup) (peers : KeepsPeers m good setup) (limits : KeepsLimits m setup)
    (rounds : ℕ) (few_rounds : (epoch : Epoch) → epoch.target ≡ target_in (m.steps setup) (m.interval setup) epoch → m.rounds setup epoch ≤ rounds) where
  -- a rank has at most as many peers as there are other ranks
  few_peers : (run : Run L T) → IsLawful m good setup goods stores run → run.core.outcome ≡ None → (rank round : ℕ) → rank < m.ranks setup → round < m.rounds setup run.core.epoch
      → length (peers_at m setup run.core.epoch run.start rank round) ≤ m.ranks setup - 1
  few_peers run lawful none rank round ranked within =
      let few : length (peers_at m setup run.core.epoch run.start rank round) + 1 ≤ m.ranks setup =
      rising_fewer (peers_at m setup run.core.epoch run.start rank round) (m.ranks setup) rank
      (peers_rise m good setup goods peers run.core.epoch run.start lawful.steady.good_start rank round within) others ranked in
      omega (arith, few)
    where
      others : (y : ℕ) → is_member (peers_at m setup run.core.epoch run.start rank round) y ≡ true → (y < m.ranks setup) × (y ≢ rank)
      others y among =
          let other : (is_member run.core.epoch.members y ≡ true) × (y ≢ rank) =
          peer_is_other m good setup goods peers run.core.epoch run.start lawful.steady.good_start rank y round within among in
          let remains : is_member (filter (λ r. not (is_gone (stage run.core r))) (range_with_len 0 run.core.ranks)) y ≡ true =
          ap (λ members. is_member members y) (sym (lawful.sound.members none)) ∙ other.0 in
          (omega (arith, below_end (λ r. not (is_gone (stage run.core r))) 0 run.core.ranks y remains, lawful.steady.ranks), other.1)

  -- while a run goes on, a rank has at most a send and a receive with each other rank in each round before it
  pub steps_few : (run : Run L T) → IsLawful m good setup goods stores run → run.core.outcome ≡ None → (rank : ℕ) → rank < m.ranks setup
      → steps_left m setup run.core.epoch run.start rank (place run rank) ≤ 2 * (m.rounds setup run.core.epoch * (m.ranks setup - 1))
  steps_few run lawful none rank ranked =
      steps_most m setup run.core.epoch run.start (m.ranks setup - 1) rank (place run rank) (λ k within. few_peers run lawful none rank k ranked within) (lawful.steady.placed rank)

  left_bounded : (run : Run L T) → IsLawful m good setup goods stores run → IsTimed run.core → run.core.outcome ≡ None → (rank : ℕ) → rank < m.ranks setup
      → left_of_rank m setup run rank ≤ most_left (m.ranks setup) rounds
  unfolding most_left
  left_bounded run lawful timed none rank ranked =
      omega (
        arith,
        left_is m setup run rank,
        left_most (is_some run.core.outcome) (stage run.core rank) (steps_left m setup run.core.epoch run.start rank (place run rank)),
        steps_few run lawful none rank ranked,
        more_rounds (m.rounds setup run.core.epoch) rounds (m.ranks setup - 1) (few_rounds run.core.epoch of_run),
      )
    where
      of_run : run.core.epoch.target ≡ target_in (m.steps setup) (m.interval setup) run.core.epoch
      of_run = timed.target ∙ ap (λ s. target_in s run.core.interval run.core.epoch) lawful.steady.steps
          ∙ ap (λ i. target_in (m.steps setup) i run.core.epoch) lawful.steady.interval

      more_rounds : (a b n : ℕ) → a ≤ b → a * n ≤ n * b
      more_rounds a b n less = omega (arith, mul-le-mul_left n less)

  -- while a run goes on, what is left of all ranks is within the bound
  pub total_bounded : (run : Run L T) → IsLawful m good setup goods stores run → IsTimed run.core → run.core.outcome ≡ None → total m setup run ≤ bound m setup rounds
  unfolding total bound
  total_bounded run lawful timed none =
      sums_within (left_of_rank m setup run) 0 (m.ranks setup) (most_left (m.ranks setup) rounds) (λ rank from below. left_bounded run lawful timed none rank (omega (arith, below)))

  -- the target of each epoch of a run is the one of its time
  pub next_run_timed : (run : Run L T) (event : Event) → IsTimed run.core → IsTimed (next_run m setup run event).core
  next_run_timed run event timed = subst IsTimed (sym (core_next m good setup goods stores run event)) (next_timed run.core event (will_be_filled m setup run (actor event)) timed)

  -- every legal event lowers the weight
  pub weight_falls : (run : Run L T) (event : Event) → IsLawful m good setup goods stores run → IsTimed run.core → is_legal_in m setup run event ≡ true
      → weight_within m setup rounds (next_run m setup run event) < weight_within m setup rounds run
  unfolding next_run is_legal_in
  weight_falls run event lawful timed legal = by_event (may_decide event) refl
    where
      core_legal : is_legal run.core event (place run (actor event)) ≡ true
      core_legal = (and_parts (is_legal run.core event (place run (actor event))) _ legal).0

      before : weight_within m setup rounds (run_happened m setup run event) < weight_within m setup rounds run
      before = happened_weight m good setup rounds run event lawful.steady lawful.sound core_legal

      state : State
      state = happened run.core event (will_be_filled m setup run (actor event))

      Timed : Run L T → Type 0
      Timed after = IsTimed after.core

      some : 1 ≤ (happened run.core event (will_be_filled m setup run (actor event))).interval
      some = omega (arith, happened_interval run.core event (will_be_filled m setup run (actor event)), lawful.steady.interval, limits.some_interval)

      ripe_weight : may_decide event ≡ true → is_ripe state ≡ true
          → weight_within m setup rounds (run_decided m setup (run_happened m setup run event) (decision state)) ≤ weight_within m setup rounds (run_happened m setup run event)
      ripe_weight may ripe =
          decided_weight m good setup rounds (run_happened m setup run event) (decision state)
          (running_where_ripe state ripe)
          (happened_timed run.core event (will_be_filled m setup run (actor event)) timed)
          some
          (restore_missing run.core event (place run (actor event)) (will_be_filled m setup run (actor event)) lawful.sound lawful.fair core_legal ripe)
          (total_bounded (run_decided m setup (run_happened m setup run event) (decision state))
          (subst (IsLawful m good setup goods stores) (ripe_next m setup run event may ripe) (next_lawful m good setup goods stores run event lawful legal))
          (subst Timed (ripe_next m setup run event may ripe) (next_run_timed run event timed)))

      by_ripe : may_decide event ≡ true → (b : Bool) → is_ripe state ≡ b
          → weight_within m setup rounds (if b then run_decided m setup (run_happened m setup run event) (decision state) else run_happened m setup run event) < weight_within m setup rounds run
      by_ripe may true ripe = omega (arith, ripe_weight may ripe, before)
      by_ripe may false unripe = before

      by_event : (b : Bool) → may_decide event ≡ b → weight_within m setup rounds (if b then run_settled m setup (run_happened m setup run event) else run_happened m setup run event) < weight_within m setup rounds run
      by_event true may = by_ripe may (is_ripe state) refl
      by_event false may = before

  from_timed : (run : Run L T) (journal : List Event) → IsTimed run.core → IsTimed (run_from m setup run journal).core
  from_timed run [] timed = timed
  from_timed run (event ∷ events) timed = from_timed (next_run m setup run event) events (next_run_timed run event timed)

  opening_run_timed : IsTimed (opening_run m setup).core
  unfolding opening_run
  opening_run_timed = opening_timed (m.ranks setup) (m.laid setup) (m.deaths setup) (m.shift setup) (m.steps setup) (m.interval setup)

  pub after_timed : (journal : List Event) → IsTimed (run_after m setup journal).core
  unfolding run_after
  after_timed journal = from_timed (opening_run m setup) journal opening_run_timed

  -- and so does every event that a journal may go on with
  pub journal_lowers : (journal : List Event) (event : Event) → is_journal m setup journal ≡ true → is_legal_in m setup (run_after m setup journal) event ≡ true
      → weight_within m setup rounds (run_after m setup (journal ++ event ∷ [])) < weight_within m setup rounds (run_after m setup journal)
  journal_lowers journal event told legal =
      let P : Run L T → Type 0 = λ run. weight_within m setup rounds run < weight_within m setup rounds (run_after m setup journal) in
      subst P (sym (run_more m setup journal event))
      (weight_falls (run_after m setup journal) event (after_lawful m good setup goods stores limits journal told) (after_timed journal) legal)

  -- so a journal is no longer than what is left before it
  lightens : (run : Run L T) (journal : List Event) → IsLawful m good setup goods stores run → IsTimed run.core → is_legal_from m setup run journal ≡ true
      → length journal + weight_within m setup rounds (run_from m setup run journal) ≤ weight_within m setup rounds run
  lightens run [] lawful timed legal = omega arith
  lightens run (event ∷ events) lawful timed legal =
      let first : is_legal_in m setup run event ≡ true = (and_parts (is_legal_in m setup run event) _ legal).0 in
      omega (
        arith,
        weight_falls run event lawful timed first,
        lightens (next_run m setup run event) events (next_lawful m good setup goods stores run event lawful first) (next_run_timed run event timed)
            (and_parts (is_legal_in m setup run event) _ legal).1,
      )

  pub journal_bounded : (journal : List Event) → is_journal m setup journal ≡ true
      → length journal + weight_within m setup rounds (run_after m setup journal) ≤ weight_within m setup rounds (opening_run m setup)
  unfolding run_after is_journal
  journal_bounded journal legal =
      lightens (opening_run m setup) journal (opening_lawful m good setup goods stores limits) opening_run_timed legal

  opening_total : total m setup (opening_run m setup) ≤ bound m setup rounds
  opening_total = total_bounded (opening_run m setup) (opening_lawful m good setup goods stores limits) opening_run_timed (opening_unended m setup)

  -- and than what all ranks may do in all epochs
  pub journal_short : (journal : List Event) → is_journal m setup journal ≡ true → length journal ≤ most_events m setup rounds
  unfolding most_events weight_within bound
  journal_short journal legal =
      omega (
        arith,
        journal_bounded journal legal,
        opening_total,
        ap (λ n. (m.ranks setup * most_left (m.ranks setup) rounds) * n) (opening_epochs m setup),
        all_epochs (intervals_in (m.steps setup) (m.interval setup)) (m.ranks setup) (m.ranks setup * most_left (m.ranks setup) rounds),
      )
    where
      all_epochs : (a n b : ℕ) → (a + 1 + 2 * n) * b ≡ b * (a + 2 * n + 0) + b
      all_epochs a n b = omega arith

module _ {S L M T R : Type 0} (m : Meanings S L M T R) (good : S → Epoch → ℕ → List L → Type 0) (setup : S)
    (goods : KeepsGood m good setup) (stores : KeepsStored m good setup) (peers : KeepsPeers m good setup) (limits : KeepsLimits m setup) where
  -- the same, whatever the numbers of rounds
  pub journal_falls : (journal : List Event) (event : Event) → is_journal m setup journal ≡ true → is_legal_in m setup (run_after m setup journal) event ≡ true
      → weight m setup (run_after m setup (journal ++ event ∷ [])) < weight m setup (run_after m setup journal)
  journal_falls = journal_lowers m good setup goods stores peers limits (2 ^ 32 - 1) (λ epoch of_run. omega (arith, limits.rounds epoch))

  restores_bounded : (run : Run L T) (journal : List Event) (before : ℕ) → IsLawful m good setup goods stores run → is_legal_from m setup run journal ≡ true
      → restores_from m setup run journal before + length (run_from m setup run journal).core.epoch.members ≤ before + length run.core.epoch.members
  unfolding is_legal_in brings_restore brings_decision
  restores_bounded run [] before lawful legal = omega arith
  restores_bounded run (event ∷ events) before lawful legal =
      by_restore (brings_restore m setup run event)
      (subst P (sym (core_next m good setup goods stores run event))
      (members_next run.core event (place run (actor event)) (will_be_filled m setup run (actor event)) lawful.sound lawful.fair core_legal))
      (λ count. restores_bounded (next_run m setup run event) events count (next_lawful m good setup goods stores run event lawful first) (and_parts (is_legal_in m setup run event) _ legal).1)
    where
      first : is_legal_in m setup run event ≡ true
      first = (and_parts (is_legal_in m setup run event) _ legal).0

      core_legal : is_legal run.core event (place run (actor event)) ≡ true
      core_legal = (and_parts (is_legal run.core event (place run (actor event))) _ first).0

      P : State → Type 0
      P state = (if brings_restore m setup run event then 1 else 0) + length state.epoch.members ≤ length run.core.epoch.members

      by_restore : (b : Bool) → (if b then 1 else 0) + length (next_run m setup run event).core.epoch.members ≤ length run.core.epoch.members
          → ((count : ℕ) → restores_from m setup (next_run m setup run event) events count + length (run_from m setup (next_run m setup run event) events).core.epoch.members
          ≤ count + length (next_run m setup run event).core.epoch.members)
          → restores_from m setup (next_run m setup run event) events (if b then before + 1 else before)
          + length (run_from m setup (next_run m setup run event) events).core.epoch.members ≤ before + length run.core.epoch.members
      by_restore true fewer rest = omega (arith, fewer, rest (before + 1))
      by_restore false same rest = omega (arith, same, rest before)

  -- with each restore a member less is left
  pub restores_few : (journal : List Event) → is_journal m setup journal ≡ true → restores_in m setup journal + length (run_after m setup journal).core.epoch.members ≤ m.ranks setup
  unfolding restores_in run_after is_journal
  restores_few journal legal =
      omega (arith, restores_bounded (opening_run m setup) journal 0 (opening_lawful m good setup goods stores limits) legal, opening_members m setup)
