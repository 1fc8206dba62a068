-- What decisions leave of the agreed snapshot, over every journal.
use Rattle.std.proofs.Common.{◌≡◌, ℕ, ◌<◌, Bool, true, false, cond, not, List, [], ◌∷◌, ◌++◌, map, filter, arith, refl, sym, subst, ◌∙◌, ap}
use Rattle.std.specs.Prelude.{◌==◌, None, if◌then◌else◌}
use Rattle.std.specs.List.{zip}
use Rattle.std.proofs.lemmas.Bool.{eqb-true, eqb-false, and_parts}
use Rattle.bf_buddy.specs.Members.{is_member}
use Rattle.bf_buddy.specs.Losses.{first_lost_of}
use Rattle.bf_buddy.proofs.MemberLemmas.{filter_members, member_head, member_tail}
use Rattle.bf_program.specs.declared.epoch.Epoch.{Epoch}
use Rattle.bf_program.specs.Epochs.{target_of, epoch_after_restore}
use Rattle.bf_program.specs.Meanings.{Meanings}
use Rattle.bf_program.specs.Laws.{KeepsLimits, KeepsGood, KeepsStored, KeepsParts}
use Rattle.bf_program.specs.Lockstep.{lockstep}
use Rattle.bf_program.specs.Restores.{heir_of, restored_epoch, restored_locals, IsGivenOnce}
use Rattle.bf_core.specs.declared.decision.Decision.{Decision}
use Rattle.bf_core.specs.declared.decision.Decision.TheVariants.{Lose, WantMemory, Commit, Restore}
use Rattle.bf_core.specs.declared.event.Event.{Event}
use Rattle.bf_core.specs.declared.outcome.Outcome.TheVariants as outcomes
use Rattle.bf_core.specs.declared.standing.Stage.{Stage}
use Rattle.bf_core.specs.declared.standing.Stage.TheVariants.{Running, Arrived, Leaving, Ended, Dead, Gone}
use Rattle.bf_core.specs.Stages.{has_finished_rounds, lives}
use Rattle.bf_core.specs.States.{State, stage, live_members}
use Rattle.bf_core.specs.Legal.{actor}
use Rattle.bf_core.specs.Next.{may_decide, is_ripe, decision, decided, dissolved, ended, committed}
use Rattle.bf_core.proofs.LawLemmas.{IsSameEpoch, same_epoch, commit_needs_members, restore_when_whole}
use Rattle.bf_world.specs.Losses.{has_died, survivors}
use Rattle.bf_world.specs.Runs.{Run, place, begun, will_be_filled, last_locals, run_happened, run_decided, next_run, run_after, is_journal}
use Rattle.bf_world.specs.Snapshots.{IsSameSnapshot, is_commit, brings_commit, StaysInEpoch, RestoresAll, AgreesOnNew}
use Rattle.bf_world.specs.Worlds.{is_restore, brings_decision, brings_restore, core_after}
use Rattle.bf_world.proofs.LawfulLemmas.{IsSteady, IsLawful, happened_steady, decided_core, after_lawful, last_good}
use Rattle.bf_world.proofs.RunLemmas.{ripe_next, quiet_run, run_more}
use Rattle.bf_world.proofs.WaitingLemmas.{member_below}
use Rattle.bf_world.proofs.DecisionLemmas.{between, made_core, core_legal, lawful, same, alive_between, live_between, lost_between, decides_parts}

-- a decision that is no commit keeps the agreed snapshot
decided_snapshot : (state : State) (made : Decision) → is_commit true made ≡ false → IsSameSnapshot state (decided state made)
unfolding decided dissolved
decided_snapshot state (Lose home buddy) other = record { time = refl; homes = refl; stored = refl }
decided_snapshot state WantMemory other = record { time = refl; homes = refl; stored = refl }
decided_snapshot state Commit other = absurd (cc)
decided_snapshot state Restore other = record { time = refl; homes = refl; stored = refl }

-- what is decided where a restore is
restore_made : (decides : Bool) (made : Decision) → is_restore decides made ≡ true → (decides ≡ true) × (made ≡ Restore)
restore_made decides (Lose home buddy) restores = absurd (cc)
restore_made decides WantMemory restores = absurd (cc)
restore_made decides Commit restores = absurd (cc)
restore_made decides Restore restores = (restores, refl)

-- and where a commit is
commit_made : (decides : Bool) (made : Decision) → is_commit decides made ≡ true → (decides ≡ true) × (made ≡ Commit)
commit_made decides (Lose home buddy) commits = absurd (cc)
commit_made decides WantMemory commits = absurd (cc)
commit_made decides Commit commits = (commits, refl)
commit_made decides Restore commits = absurd (cc)

-- a restore keeps the agreed snapshot and goes on with who lives
restored_parts : (state : State) → IsSameSnapshot state (decided state Restore) × (((decided state Restore).outcome ≡ state.outcome)
    × ((decided state Restore).epoch.members ≡ live_members state))
unfolding decided dissolved
restored_parts state = (record { time = refl; homes = refl; stored = refl }, (refl, refl))

-- and begins a repair, which ends where it begins
repairs : (state : State) → ((decided state Restore).epoch.restored ≡ true) × ((decided state Restore).epoch.target ≡ (decided state Restore).epoch.time)
unfolding decided dissolved
repairs state = (refl, refl)

-- a commit after which the run goes on is not at the last step
unended : (state : State) → state.outcome ≡ None → (decided state Commit).outcome ≡ None → (state.epoch.target == state.steps) ≡ false
unfolding decided dissolved
unended state none goes_on = by_end (state.epoch.target == state.steps) goes_on
  where
    by_end : (b : Bool) → (if b then ended state outcomes.Finished else committed state).outcome ≡ None → b ≡ false
    by_end true finished = absurd (cc)
    by_end false _ = refl

-- it begins the epoch after
committed_epoch : (state : State) → (state.epoch.target == state.steps) ≡ false → (decided state Commit).epoch ≡ (committed state).epoch
unfolding decided
committed_epoch state goes_on = ap (λ b. (if b then ended state outcomes.Finished else committed state).epoch) goes_on

-- who has finished its rounds lives
finished_lives : (s : Stage) → has_finished_rounds s ≡ true → lives s ≡ true
finished_lives (Arrived how filled) _ = refl
finished_lives Running unfinished = absurd (cc)
finished_lives Leaving unfinished = absurd (cc)
finished_lives Ended unfinished = absurd (cc)
finished_lives Dead unfinished = absurd (cc)
finished_lives Gone unfinished = absurd (cc)

-- where all pass a test, none is left out
filter_all : (test : ℕ → Bool) (members : List ℕ) → ((rank : ℕ) → is_member members rank ≡ true → test rank ≡ true) → filter test members ≡ members
filter_all test [] passes = refl
filter_all test (member ∷ members) passes =
    rw (passes member (member_head member members))
    (ap (λ rest. member ∷ rest) (filter_all test members (λ rank is_in. passes rank (member_tail member rank members is_in))))

-- two tests that agree on all members keep the same seats
filter_seats : {L : Type 0} (p q : ℕ → Bool) (members : List ℕ) (locals : List L) → ((rank : ℕ) → is_member members rank ≡ true → p rank ≡ q rank)
    → filter (λ seat. p seat.0) (zip members locals) ≡ filter (λ seat. q seat.0) (zip members locals)
filter_seats p q [] locals agree = refl
filter_seats p q (member ∷ members) [] agree = refl
filter_seats {L = L} p q (member ∷ members) (local ∷ locals) agree =
    ap (λ b. cond b ((member, local) ∷ filter (λ seat. p seat.0) (zip members locals)) (filter (λ seat. p seat.0) (zip members locals))) (agree member (member_head member members))
    ∙ ap (λ (rest : List (ℕ × L)). cond (q member) ((member, local) ∷ rest) rest)
    (filter_seats p q members locals (λ rank is_in. agree rank (member_tail member rank members is_in)))

-- so they restore the same locals
restored_alike : {S L M T R : Type 0} (m : Meanings S L M T R) (setup : S) (epoch : Epoch) (p q : ℕ → Bool) (locals : List L)
    → ((rank : ℕ) → is_member epoch.members rank ≡ true → p rank ≡ q rank) → restored_locals m setup epoch p locals ≡ restored_locals m setup epoch q locals
unfolding restored_locals
restored_alike {L = L} m setup epoch p q locals agree =
    ap (λ live. map (λ (seat : ℕ × L). m.restore setup seat.1 seat.0 (epoch_after_restore live epoch)) (filter (λ seat. p seat.0) (zip epoch.members locals)))
    (filter_members p q epoch.members agree)
    ∙ ap (map (λ (seat : ℕ × L). m.restore setup seat.1 seat.0 (restored_epoch q epoch))) (filter_seats p q epoch.members locals agree)

-- the one member that is given a part is its heir
heir_is : {S L M T R : Type 0} (m : Meanings S L M T R) (good : S → Epoch → ℕ → List L → Type 0) (setup : S) → KeepsParts m good setup
    → (epoch : Epoch) (round : ℕ) (locals : List L) (lives : ℕ → Bool) (home : ℕ) → good setup epoch round locals
    → first_lost_of epoch.homes (m.stored locals) (filter lives epoch.members) (m.shift setup) ≡ None
    → (once : IsGivenOnce m setup epoch lives locals home) → once.heir ≡ heir_of epoch.homes (filter lives epoch.members) (m.shift setup) home
heir_is m good setup parts epoch round locals lives home is_good whole once =
    sym (eqb-true (heir_of epoch.homes (filter lives epoch.members) (m.shift setup) home) once.heir
    (and_parts (is_member (m.stored locals) home) _
    (sym (parts.given epoch round locals lives once.heir once.given.0 is_good whole once.given.1.1 once.given.1.0 home) ∙ once.given.1.2)).1)

module _ {S L M T R : Type 0} (m : Meanings S L M T R) (setup : S) where
  -- an event that brings no decision leaves the run in its epoch
  stays : (run : Run L T) (event : Event) → brings_decision m setup run event ≡ false → StaysInEpoch m setup run (next_run m setup run event)
  stays run event quiet =
      let same : IsSameEpoch run.core (between m setup run event) = same_epoch run.core event (will_be_filled m setup run (actor event)) in
      subst (StaysInEpoch m setup run) (sym (quiet_run m setup run event quiet))
      (record { outcome = same.outcome; epoch = same.epoch; stored = same.stored; start = refl })

  pub stays_told : (journal : List Event) (event : Event) → brings_decision m setup (run_after m setup journal) event ≡ false
      → StaysInEpoch m setup (run_after m setup journal) (run_after m setup (journal ++ event ∷ []))
  stays_told journal event quiet =
      subst (StaysInEpoch m setup (run_after m setup journal)) (sym (run_more m setup journal event)) (stays (run_after m setup journal) event quiet)

  -- an event and the decision that it brings keep the agreed snapshot, where that is no commit
  snapshot_after : (run : Run L T) (event : Event) (made : Decision) → is_commit true made ≡ false
      → IsSameSnapshot run.core (decided (between m setup run event) made)
  snapshot_after run event made other =
      let same : IsSameEpoch run.core (between m setup run event) = same_epoch run.core event (will_be_filled m setup run (actor event)) in
      let kept : IsSameSnapshot (between m setup run event) (decided (between m setup run event) made) = decided_snapshot (between m setup run event) made other in
      record {
        time = kept.time ∙ ap (λ e. e.time) same.epoch;
        homes = kept.homes ∙ ap (λ e. e.homes) same.epoch;
        stored = kept.stored ∙ same.stored;
      }

  -- an event that brings no commit keeps the agreed snapshot
  pub snapshot_stays : (journal : List Event) (event : Event) → brings_commit m setup (run_after m setup journal) event ≡ false
      → IsSameSnapshot (core_after m setup journal) (core_after m setup (journal ++ event ∷ []))
  unfolding brings_commit
  snapshot_stays journal event other =
      subst (λ (run : Run L T). IsSameSnapshot (core_after m setup journal) run.core) (sym (run_more m setup journal event))
      (by_decision (brings_decision m setup (run_after m setup journal) event) refl other)
    where
      by_decision : (b : Bool) → brings_decision m setup (run_after m setup journal) event ≡ b
          → is_commit b (decision (between m setup (run_after m setup journal) event)) ≡ false
          → IsSameSnapshot (core_after m setup journal) (next_run m setup (run_after m setup journal) event).core
      by_decision true decides no_commit =
          subst (IsSameSnapshot (core_after m setup journal)) (sym (made_core m setup (run_after m setup journal) event decides))
          (snapshot_after (run_after m setup journal) event (decision (between m setup (run_after m setup journal) event)) no_commit)
      by_decision false quiet _ =
          let same : StaysInEpoch m setup (run_after m setup journal) (next_run m setup (run_after m setup journal) event) = stays (run_after m setup journal) event quiet in
          record { time = ap (λ e. e.time) same.epoch; homes = ap (λ e. e.homes) same.epoch; stored = same.stored }

  -- the run after an event that brings a decision
  made_run : (journal : List Event) (event : Event) (made : Decision) → brings_decision m setup (run_after m setup journal) event ≡ true
      → decision (between m setup (run_after m setup journal) event) ≡ made
      → run_after m setup (journal ++ event ∷ []) ≡ run_decided m setup (run_happened m setup (run_after m setup journal) event) made
  unfolding brings_decision
  made_run journal event made decides is_made =
      let parts = and_parts (may_decide event) (is_ripe (between m setup (run_after m setup journal) event)) decides in
      run_more m setup journal event ∙ ripe_next m setup (run_after m setup journal) event parts.0 parts.1
      ∙ ap (run_decided m setup (run_happened m setup (run_after m setup journal) event)) is_made

  -- an event keeps the last locals
  same_last : (run : Run L T) (event : Event) → last_locals m setup (run_happened m setup run event) ≡ last_locals m setup run
  unfolding last_locals
  same_last run event =
      ap (λ e. lockstep m setup e run.start (m.rounds setup e)) (same_epoch run.core event (will_be_filled m setup run (actor event))).epoch

  -- a commit after which the run goes on keeps the last locals
  kept_start : (run : Run L T) → (run.core.epoch.target == run.core.steps) ≡ false → (run_decided m setup run Commit).start ≡ map m.keep (last_locals m setup run)
  kept_start run goes_on =
      ap (λ b. (if b then record run { core = decided run.core Commit } else begun m setup (decided run.core Commit) (map m.keep (last_locals m setup run)) run.parcels).start) goes_on

module _ {S L M T R : Type 0} (m : Meanings S L M T R) (good : S → Epoch → ℕ → List L → Type 0) (setup : S)
    (goods : KeepsGood m good setup) (stores : KeepsStored m good setup) (limits : KeepsLimits m setup)
    (journal : List Event) (event : Event) (legal : is_journal m setup (journal ++ event ∷ []) ≡ true) where
  before : IsLawful m good setup goods stores (run_after m setup journal)
  before = lawful m good setup goods stores limits journal event legal

  kept : IsSameEpoch (core_after m setup journal) (between m setup (run_after m setup journal) event)
  kept = same m good setup goods stores limits journal event legal

  -- a member lives exactly where it has not died in the journal
  alive : (core_after m setup journal).outcome ≡ None → (rank : ℕ) → is_member (core_after m setup journal).epoch.members rank ≡ true
      → lives (stage (between m setup (run_after m setup journal) event) rank) ≡ not (has_died (journal ++ event ∷ []) rank)
  alive none rank member =
      let below : rank < (core_after m setup journal).ranks = member_below (core_after m setup journal) rank before.sound none member in
      alive_between m good setup goods stores limits journal event legal rank (omega (arith, below, before.steady.ranks))

  -- the members that have not died are the ranks that have not
  alive_members : (core_after m setup journal).outcome ≡ None
      → filter (λ rank. not (has_died (journal ++ event ∷ []) rank)) (core_after m setup journal).epoch.members ≡ survivors (m.ranks setup) (journal ++ event ∷ [])
  unfolding live_members
  alive_members none =
      sym (filter_members (λ rank. lives (stage (between m setup (run_after m setup journal) event) rank)) (λ rank. not (has_died (journal ++ event ∷ []) rank))
      (core_after m setup journal).epoch.members (alive none))
      ∙ ap (λ e. filter (λ rank. lives (stage (between m setup (run_after m setup journal) event) rank)) e.members) (sym kept.epoch)
      ∙ live_between m good setup goods stores limits journal event legal none

  -- what a restore gives to whom, where no part is lost
  abbrev pub GivesOnce : Type 0
  GivesOnce = (epoch : Epoch) (round : ℕ) (locals : List L) (lives : ℕ → Bool) → good setup epoch round locals
      → first_lost_of epoch.homes (m.stored locals) (filter lives epoch.members) (m.shift setup) ≡ None
      → (home : ℕ) → is_member (m.stored locals) home ≡ true → IsGivenOnce m setup epoch lives locals home

  -- a restore gives back all that is agreed
  pub restores_all : KeepsParts m good setup → GivesOnce → brings_restore m setup (run_after m setup journal) event ≡ true
      → RestoresAll m setup (run_after m setup journal) (run_after m setup (journal ++ event ∷ [])) (journal ++ event ∷ [])
  unfolding brings_restore
  restores_all parts gives restores =
      let now : State = between m setup (run_after m setup journal) event in
      let made = restore_made (brings_decision m setup (run_after m setup journal) event) (decision now) restores in
      let decides = decides_parts m good setup goods stores limits journal event legal made.0 in
      let none : (core_after m setup journal).outcome ≡ None = decides.1.1 in
      let run_is : run_after m setup (journal ++ event ∷ []) ≡ run_decided m setup (run_happened m setup (run_after m setup journal) event) Restore =
      made_run m setup journal event Restore made.0 made.1 in
      let core_is : core_after m setup (journal ++ event ∷ []) ≡ decided now Restore =
      ap (λ r. r.core) run_is ∙ decided_core m setup (run_happened m setup (run_after m setup journal) event) Restore in
      let left = restored_parts now in
      let whole : first_lost_of (core_after m setup journal).epoch.homes (m.stored (run_after m setup journal).start)
      (filter (λ rank. not (has_died (journal ++ event ∷ []) rank)) (core_after m setup journal).epoch.members) (m.shift setup) ≡ None =
      ap (λ live. first_lost_of (core_after m setup journal).epoch.homes (m.stored (run_after m setup journal).start) live (m.shift setup)) (alive_members none)
      ∙ ap (λ stored. first_lost_of (core_after m setup journal).epoch.homes stored (survivors (m.ranks setup) (journal ++ event ∷ [])) (m.shift setup)) (sym before.steady.stored)
      ∙ ap (first_lost_of (core_after m setup journal).epoch.homes (core_after m setup journal).stored (survivors (m.ranks setup) (journal ++ event ∷ []))) (sym before.steady.shift)
      ∙ sym (lost_between m good setup goods stores limits journal event legal none) ∙ restore_when_whole now made.1 in
      record {
        goes_on = ap (λ s. s.outcome) core_is ∙ left.1.0 ∙ kept.outcome ∙ none;
        agreed = subst (IsSameSnapshot (core_after m setup journal)) (sym core_is) (snapshot_after m setup (run_after m setup journal) event Restore refl);
        members = ap (λ s. s.epoch.members) core_is ∙ left.1.1 ∙ live_between m good setup goods stores limits journal event legal none;
        given = λ home stored.
            let once : IsGivenOnce m setup (core_after m setup journal).epoch (λ rank. not (has_died (journal ++ event ∷ []) rank)) (run_after m setup journal).start home =
            gives (core_after m setup journal).epoch 0 (run_after m setup journal).start (λ rank. not (has_died (journal ++ event ∷ []) rank))
            before.steady.good_start whole home (ap (λ xs. is_member xs home) (sym before.steady.stored) ∙ stored) in (
              once,
              subst (λ live. once.heir ≡ heir_of (core_after m setup journal).epoch.homes live (m.shift setup) home) (alive_members none)
                  (heir_is m good setup parts (core_after m setup journal).epoch 0 (run_after m setup journal).start (λ rank. not (has_died (journal ++ event ∷ []) rank)) home
                  before.steady.good_start whole once),
            );
        start = ap (λ r. r.start) run_is
            ∙ ap (λ e. restored_locals m setup e (λ rank. lives (stage now rank)) (run_after m setup journal).start) kept.epoch
            ∙ restored_alike m setup (core_after m setup journal).epoch (λ rank. lives (stage now rank)) (λ rank. not (has_died (journal ++ event ∷ []) rank))
            (run_after m setup journal).start (alive none);
        restored = ap (λ s. s.epoch.restored) core_is ∙ (repairs now).0;
        target = ap (λ s. s.epoch.target) core_is ∙ (repairs now).1 ∙ ap (λ s. s.epoch.time) (sym core_is);
      }

  -- at a commit all members live
  pub all_live : brings_commit m setup (run_after m setup journal) event ≡ true
      → (core_after m setup journal).epoch.members ≡ survivors (m.ranks setup) (journal ++ event ∷ [])
  unfolding brings_commit
  all_live commits =
      let now : State = between m setup (run_after m setup journal) event in
      let made = commit_made (brings_decision m setup (run_after m setup journal) event) (decision now) commits in
      let decides = decides_parts m good setup goods stores limits journal event legal made.0 in
      let none : (core_after m setup journal).outcome ≡ None = decides.1.1 in
      sym (filter_all (λ rank. not (has_died (journal ++ event ∷ []) rank)) (core_after m setup journal).epoch.members
      (λ rank member. sym (alive none rank member)
      ∙ finished_lives (stage now rank) (commit_needs_members (core_after m setup journal) event (place (run_after m setup journal) (actor event))
      (will_be_filled m setup (run_after m setup journal) (actor event)) before.sound (core_legal m good setup goods stores limits journal event legal) decides.1.0 made.1 rank member)))
      ∙ alive_members none

  -- a commit after which the run goes on agrees on the new snapshot
  pub agrees : brings_commit m setup (run_after m setup journal) event ≡ true → (core_after m setup (journal ++ event ∷ [])).outcome ≡ None
      → AgreesOnNew m setup (run_after m setup journal) (run_after m setup (journal ++ event ∷ []))
  unfolding brings_commit
  agrees commits goes_on =
      let now : State = between m setup (run_after m setup journal) event in
      let made = commit_made (brings_decision m setup (run_after m setup journal) event) (decision now) commits in
      let none : (core_after m setup journal).outcome ≡ None = (decides_parts m good setup goods stores limits journal event legal made.0).1.1 in
      let run_is : run_after m setup (journal ++ event ∷ []) ≡ run_decided m setup (run_happened m setup (run_after m setup journal) event) Commit =
      made_run m setup journal event Commit made.0 made.1 in
      let core_is : core_after m setup (journal ++ event ∷ []) ≡ decided now Commit =
      ap (λ r. r.core) run_is ∙ decided_core m setup (run_happened m setup (run_after m setup journal) event) Commit in
      let open_end : (now.epoch.target == now.steps) ≡ false = unended now (kept.outcome ∙ none) (ap (λ s. s.outcome) (sym core_is) ∙ goes_on) in
      let steady : IsSteady m good setup (run_happened m setup (run_after m setup journal) event) =
      happened_steady m good setup (run_after m setup journal) event before.steady before.sound (core_legal m good setup goods stores limits journal event legal) in
      let target : now.epoch.target ≡ (core_after m setup journal).epoch.target = ap (λ e. e.target) kept.epoch in
      let below : (core_after m setup journal).epoch.target < m.steps setup =
      omega (arith, target, steady.within.1, steady.steps, eqb-false now.epoch.target now.steps open_end) in
      let epoch_is : (core_after m setup (journal ++ event ∷ [])).epoch ≡ (committed now).epoch = ap (λ s. s.epoch) core_is ∙ committed_epoch now open_end in
      let start_is : (run_after m setup (journal ++ event ∷ [])).start ≡ map m.keep (last_locals m setup (run_after m setup journal)) =
      ap (λ r. r.start) run_is ∙ kept_start m setup (run_happened m setup (run_after m setup journal) event) open_end
      ∙ ap (map m.keep) (same_last m setup (run_after m setup journal) event) in
      record {
        time = ap (λ e. e.time) epoch_is ∙ ap (λ e. e.target) kept.epoch;
        homes = ap (λ e. e.homes) epoch_is ∙ ap (λ e. e.members) kept.epoch;
        stored = (after_lawful m good setup goods stores limits (journal ++ event ∷ []) legal).steady.stored ∙ ap m.stored start_is
            ∙ stores.keep (core_after m setup journal).epoch (last_locals m setup (run_after m setup journal))
            (last_good m good setup goods stores (run_after m setup journal) before.steady) below;
        members = ap (λ e. e.members) epoch_is ∙ ap (λ e. e.members) kept.epoch;
        start = start_is;
        restored = ap (λ e. e.restored) epoch_is;
        target = ap (λ e. e.target) epoch_is ∙ ap (λ n. target_of n now.interval now.epoch.target) steady.steps
            ∙ ap (λ n. target_of (m.steps setup) n now.epoch.target) steady.interval ∙ ap (target_of (m.steps setup) (m.interval setup)) target;
      }
