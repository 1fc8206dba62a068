-- What holds of every run that a journal tells.
use Rattle.std.proofs.Common.{◌≡◌, ◌≢◌, ℕ, ◌+◌, ◌<◌, ◌≤◌, min, Bool, true, false, ◌&&◌, not, List, [], ◌∷◌, map, filter, length, slice_set, arith, refl, sym, subst, ◌∙◌, ap, inl, inr}
use Rattle.std.specs.Prelude.{◌==◌, Option, Some, None, is_some, if◌then◌else◌}
use Rattle.std.specs.List.{range_with_len}
use Rattle.std.proofs.Math.ListN.{get_or}
use Rattle.std.proofs.lemmas.Bool.{cases_eq, cases_lt, eq-eqb, and_parts}
use Rattle.std.proofs.lemmas.List.{get_or-set_same, get_or-set_other, length-set}
use Rattle.bf_program.specs.declared.epoch.Epoch.{Epoch}
use Rattle.bf_program.specs.Meanings.{Meanings}
use Rattle.bf_program.specs.Laws.{KeepsLimits, KeepsGood, KeepsStored}
use Rattle.bf_core.specs.declared.event.Event.{Event}
use Rattle.bf_core.specs.declared.event.Event.TheVariants.{Send, Recv, Arrive, Leave, Die}
use Rattle.bf_core.specs.declared.event.How.TheVariants.{Done, Broken, Memory}
use Rattle.bf_core.specs.declared.outcome.Outcome.{Outcome}
use Rattle.bf_core.specs.declared.place.Place.{Place}
use Rattle.bf_core.specs.declared.place.Place.TheVariants.{Rounds, Past}
use Rattle.bf_core.specs.declared.standing.Stage.{Stage}
use Rattle.bf_core.specs.declared.standing.Stage.TheVariants.{Running, Arrived, Leaving, Ended, Dead, Gone}
use Rattle.bf_core.specs.Stages.{is_leaving, goes_on, lives}
use Rattle.bf_core.specs.Places.{is_just, next_send, next_receive, is_past}
use Rattle.bf_core.specs.States.{State, stage, is_active}
use Rattle.bf_core.specs.Legal.{is_legal, waits, actor}
use Rattle.bf_core.specs.declared.decision.Decision.{Decision}
use Rattle.bf_core.specs.declared.decision.Decision.TheVariants.{Lose, WantMemory, Commit, Restore}
use Rattle.bf_core.specs.Next.{with_stage, may_decide, happened, is_ripe, decision, decided, settled, next}
use Rattle.std.proofs.lemmas.List.FromFn.{length-map-range_with_len, get_or-map-range_with_len}
use Rattle.std.proofs.lemmas.List.{get_or_past}
use Rattle.bf_core.proofs.LegalLemmas.{just_some}
use Rattle.bf_buddy.proofs.MemberLemmas.{filter_members}
use Rattle.bf_buddy.specs.Members.{is_member}
use Rattle.bf_buddy.specs.Losses.{first_lost_of}
use Rattle.bf_program.specs.Epochs.{target_of, epoch_after_commit}
use Rattle.bf_program.specs.Lockstep.{local_of}
use Rattle.bf_program.specs.Restores.{restored_epoch, restored_locals}
use Rattle.bf_program.specs.Restores as program
use Rattle.bf_program.proofs.LockstepLemmas.{stays_good}
use Rattle.bf_core.specs.Stages.{after_decision, has_finished_rounds, is_filled, is_gone, is_arrived}
use Rattle.bf_core.specs.States.{live_members, opening}
use Rattle.bf_core.specs.Next.{dissolved, ended, committed, restored, filled_members}
use Rattle.bf_core.specs.States.{first_lost}
use Rattle.bf_core.specs.declared.outcome.Outcome.TheVariants as outcomes
use Rattle.bf_core.proofs.StageLemmas.{is_rank, stage_dissolved}
use Rattle.bf_core.proofs.ArrivalLemmas.{IsFair, next_fair, opening_fair}
use Rattle.bf_core.proofs.LawLemmas.{IsSameEpoch, same_epoch, running_where_ripe, commit_needs_members, restore_when_whole}
use Rattle.bf_world.proofs.MemberLemmas.{Apart, apart_range, keys_filtered, test_of}
use Rattle.bf_core.proofs.SoundLemmas.{IsSound, IsMoved, moved_stage, acting, in_list, leaving_stage, next_sound, opening_sound, opening_unarrived}
use Rattle.bf_world.specs.Course.{first_place, after_send, after_receive}
use Rattle.bf_world.specs.Runs.{Run, place, begun, first_places, last_locals, will_be_filled, run_happened, run_decided, run_settled, next_run, is_legal_in, opening_run, run_from, is_legal_from, run_after, is_journal}
use Rattle.bf_world.proofs.PlaceLemmas.{IsPlaced, placed_send, placed_receive, placed_from}

arrived_filled : {a b : Bool} → Arrived Done a ≡ Arrived Done b → a ≡ b
arrived_filled same = ap is_filled same

module _ {S L M T R : Type 0} (m : Meanings S L M T R) (good : S → Epoch → ℕ → List L → Type 0) (setup : S) where
  -- who has arrived done is past the last round, and its part of the new snapshot is filled as its last local says
  abbrev pub AreDone : Run L T → Type 0
  AreDone run = (rank : ℕ) (filled : Bool) → stage run.core rank ≡ Arrived Done filled → (place run rank ≡ Past) × (filled ≡ will_be_filled m setup run rank)

  -- what holds of a run also between an event and the decision that it may bring
  pub record IsSteady (run : Run L T) : Type 0 where
    pub ranks : run.core.ranks ≡ m.ranks setup
    pub shift : run.core.shift ≡ m.shift setup
    pub steps : run.core.steps ≡ m.steps setup
    pub interval : run.core.interval ≡ m.interval setup
    pub within : (run.core.epoch.time ≤ m.steps setup) × (run.core.epoch.target ≤ m.steps setup)
    pub size : length run.places ≡ m.ranks setup
    pub good_start : good setup run.core.epoch 0 run.start
    pub stored : run.core.stored ≡ m.stored run.start
    pub placed : (rank : ℕ) → IsPlaced m setup run.core.epoch run.start rank (place run rank)
    pub done : AreDone run

  done_moves : (before after : Run L T) (rank : ℕ) (to : Stage) → IsMoved before.core after.core rank to
      → ((other : ℕ) → other ≢ rank → place after other ≡ place before other)
      → ((other : ℕ) → will_be_filled m setup after other ≡ will_be_filled m setup before other)
      → ((filled : Bool) → to ≡ Arrived Done filled → (place after rank ≡ Past) × (filled ≡ will_be_filled m setup after rank))
      → AreDone before → AreDone after
  done_moves before after rank to moved places same its done other filled at = elim (cases_eq other rank) [
    | inl e ↦ let P : ℕ → Type 0 = λ r. (place after r ≡ Past) × (filled ≡ will_be_filled m setup after r) in
        subst P (sym e) (its filled (sym moved.its ∙ ap (stage after.core) (sym e) ∙ at))
    | inr differs ↦ let d = done other filled (sym (moved.others other differs) ∙ at) in (places other differs ∙ d.0, d.1 ∙ sym (same other))
  ]

  -- a rank stands elsewhere in its rounds
  placed_moves : (run : Run L T) (rank : ℕ) (to : Place) → rank < length run.places → IsPlaced m setup run.core.epoch run.start rank to
      → ((other : ℕ) → IsPlaced m setup run.core.epoch run.start other (place run other))
      → (other : ℕ) → IsPlaced m setup run.core.epoch run.start other (get_or (slice_set run.places rank to) other Past)
  placed_moves run rank to within its placed other = elim (cases_eq other rank) [
    | inl e ↦ let P : ℕ → Type 0 = λ r. IsPlaced m setup run.core.epoch run.start r (get_or (slice_set run.places rank to) r Past) in
        let Q : Place → Type 0 = IsPlaced m setup run.core.epoch run.start rank in
        subst P (sym e) (subst Q (sym (get_or-set_same run.places rank to Past within)) its)
    | inr differs ↦ let Q : Place → Type 0 = IsPlaced m setup run.core.epoch run.start other in
        subst Q (sym (get_or-set_other run.places rank other to Past differs)) (placed other)
  ]

  -- a rank that runs stands at a place
  has_place : (run : Run L T) (rank : ℕ) → IsSteady run → IsSound run.core → rank < length run.core.standings → rank < length run.places
  has_place run rank steady sound within = omega (arith, within, steady.size, steady.ranks, sound.size)

  running_not_done : (state : State) (rank : ℕ) (filled : Bool) → stage state rank ≡ Running → stage state rank ≡ Arrived Done filled → ⊥
  running_not_done state rank filled runs arrived = let e : Running ≡ Arrived Done filled = sym runs ∙ arrived in absurd (cc)

  sent_steady : (run : Run L T) (rank to blocks sum : ℕ) → IsSteady run → IsSound run.core → is_legal run.core (Send rank to blocks sum) (place run rank) ≡ true
      → IsSteady (run_happened m setup run (Send rank to blocks sum))
  unfolding will_be_filled last_locals
  sent_steady run rank to blocks sum steady sound legal =
      let runs : stage run.core rank ≡ Running = acting run.core rank (and_parts (is_active run.core rank) _ legal).0 in
      let within : rank < length run.core.standings = in_list run.core rank runs in
      let moved : IsMoved run.core (with_stage run.core rank (stage run.core rank)) rank (stage run.core rank) = moved_stage run.core rank (stage run.core rank) within in
      let sends : next_send (place run rank) ≡ Some to = just_some _ to (and_parts (is_active run.core rank) _ legal).1 in
      record {
        ranks = steady.ranks;
        shift = steady.shift;
        steps = steady.steps;
        interval = steady.interval;
        within = steady.within;
        size = length-set run.places rank _ ∙ steady.size;
        good_start = steady.good_start;
        stored = steady.stored;
        placed = placed_moves run rank (after_send (place run rank)) (has_place run rank steady sound within)
            (placed_send m setup run.core.epoch run.start rank (place run rank) to (steady.placed rank) sends) steady.placed;
        done = done_moves run (run_happened m setup run (Send rank to blocks sum)) rank (stage run.core rank)
            (record { its = moved.its; others = moved.others })
            (λ other differs. get_or-set_other run.places rank other _ Past differs)
            (λ other. refl)
            (λ filled arrived. absurd (running_not_done run.core rank filled runs arrived))
            steady.done;
      }

  received_steady : (run : Run L T) (rank peer : ℕ) → IsSteady run → IsSound run.core → is_legal run.core (Recv rank peer) (place run rank) ≡ true
      → IsSteady (run_happened m setup run (Recv rank peer))
  unfolding will_be_filled last_locals
  received_steady run rank peer steady sound legal =
      let active : is_active run.core rank && is_just (next_receive (place run rank)) peer ≡ true =
      (and_parts (is_active run.core rank && is_just (next_receive (place run rank)) peer) _ legal).0 in
      let runs : stage run.core rank ≡ Running = acting run.core rank (and_parts (is_active run.core rank) _ active).0 in
      let within : rank < length run.core.standings = in_list run.core rank runs in
      let moved : IsMoved run.core (with_stage run.core rank (stage run.core rank)) rank (stage run.core rank) = moved_stage run.core rank (stage run.core rank) within in
      let receives : next_receive (place run rank) ≡ Some peer = just_some _ peer (and_parts (is_active run.core rank) _ active).1 in
      record {
        ranks = steady.ranks;
        shift = steady.shift;
        steps = steady.steps;
        interval = steady.interval;
        within = steady.within;
        size = length-set run.places rank _ ∙ steady.size;
        good_start = steady.good_start;
        stored = steady.stored;
        placed = placed_moves run rank (after_receive m setup run.core.epoch run.start rank (place run rank)) (has_place run rank steady sound within)
            (placed_receive m setup run.core.epoch run.start rank (place run rank) peer (steady.placed rank) receives) steady.placed;
        done = done_moves run (run_happened m setup run (Recv rank peer)) rank (stage run.core rank)
            (record { its = moved.its; others = moved.others })
            (λ other differs. get_or-set_other run.places rank other _ Past differs)
            (λ other. refl)
            (λ filled arrived. absurd (running_not_done run.core rank filled runs arrived))
            steady.done;
      }

  -- a rank's stage changes, and no place
  staged_steady : (run : Run L T) (event : Event) (rank : ℕ) (to : Stage) → IsSteady run → rank < length run.core.standings
      → happened run.core event (will_be_filled m setup run (actor event)) ≡ with_stage run.core rank to
      → ((filled : Bool) → to ≡ Arrived Done filled → (place run rank ≡ Past) × (filled ≡ will_be_filled m setup run rank))
      → (parcels : List (ℕ × T)) → IsSteady (record { core = with_stage run.core rank to; start = run.start; places = run.places; parcels = parcels })
  unfolding will_be_filled last_locals
  staged_steady run event rank to steady within same its parcels = record {
    ranks = steady.ranks;
    shift = steady.shift;
    steps = steady.steps;
    interval = steady.interval;
    within = steady.within;
    size = steady.size;
    good_start = steady.good_start;
    stored = steady.stored;
    placed = steady.placed;
    done = done_moves run (record { core = with_stage run.core rank to; start = run.start; places = run.places; parcels = parcels }) rank to
        (moved_stage run.core rank to within) (λ other differs. refl) (λ other. refl) its steady.done;
  }

  past_place : (p : Place) → is_past p ≡ true → p ≡ Past
  past_place Past _ = refl
  past_place (Rounds round sent received peers) still = absurd (cc)

  pub happened_steady : (run : Run L T) (event : Event) → IsSteady run → IsSound run.core → is_legal run.core event (place run (actor event)) ≡ true
      → IsSteady (run_happened m setup run event)
  happened_steady run (Send rank to blocks sum) steady sound legal = sent_steady run rank to blocks sum steady sound legal
  happened_steady run (Recv rank peer) steady sound legal = received_steady run rank peer steady sound legal
  happened_steady run (Arrive rank Done) steady sound legal =
      let runs : stage run.core rank ≡ Running = acting run.core rank (and_parts (is_active run.core rank) _ legal).0 in
      staged_steady run (Arrive rank Done) rank (Arrived Done (will_be_filled m setup run rank)) steady (in_list run.core rank runs) refl
      (λ filled same. (past_place (place run rank) (and_parts (is_active run.core rank) _ legal).1, sym (arrived_filled same))) _
  happened_steady run (Arrive rank Broken) steady sound legal =
      let runs : stage run.core rank ≡ Running =
      acting run.core rank (and_parts (is_active run.core rank) _ (and_parts (is_active run.core rank && waits run.core rank (place run rank)) _ legal).0).0 in
      staged_steady run (Arrive rank Broken) rank (Arrived Broken false) steady (in_list run.core rank runs) refl (λ filled same. absurd (cc)) _
  happened_steady run (Arrive rank Memory) steady sound legal =
      let runs : stage run.core rank ≡ Running = acting run.core rank legal in
      staged_steady run (Arrive rank Memory) rank (Arrived Memory false) steady (in_list run.core rank runs) refl (λ filled same. absurd (cc)) _
  happened_steady run (Leave rank) steady sound legal =
      let leaving : stage run.core rank ≡ Leaving = leaving_stage run.core rank (and_parts (is_leaving (stage run.core rank)) _ legal).0 in
      staged_steady run (Leave rank) rank (if is_some run.core.outcome then Ended else Running) steady
      (is_rank is_leaving run.core rank refl (ap is_leaving leaving)) refl (λ filled same. absurd (by_end (is_some run.core.outcome) filled same)) _
    where
      by_end : (b filled : Bool) → (if b then Ended else Running) ≡ Arrived Done filled → ⊥
      by_end true filled same = absurd (cc)
      by_end false filled same = absurd (cc)
  happened_steady run (Die rank) steady sound legal =
      staged_steady run (Die rank) rank Dead steady (is_rank goes_on run.core rank refl (and_parts (goes_on (stage run.core rank)) _ legal).0) refl (λ filled same. absurd (cc)) _

  -- after a decision nobody has arrived
  none_arrived : (s : Stage) (filled : Bool) → after_decision s ≡ Arrived Done filled → ⊥
  none_arrived Running filled same = absurd (cc)
  none_arrived (Arrived how f) filled same = absurd (cc)
  none_arrived Leaving filled same = absurd (cc)
  none_arrived Ended filled same = absurd (cc)
  none_arrived Dead filled same = absurd (cc)
  none_arrived Gone filled same = absurd (cc)

  dissolved_undone : (state : State) (rank : ℕ) (filled : Bool) → stage (dissolved state) rank ≡ Arrived Done filled → ⊥
  dissolved_undone state rank filled arrived = none_arrived (stage state rank) filled (sym (stage_dissolved state rank) ∙ arrived)

  ended_steady : (run : Run L T) (outcome : Outcome) → IsSteady run → IsSteady (record run { core = ended run.core outcome })
  unfolding dissolved
  ended_steady run outcome steady = record {
    ranks = steady.ranks;
    shift = steady.shift;
    steps = steady.steps;
    interval = steady.interval;
    within = steady.within;
    size = steady.size;
    good_start = steady.good_start;
    stored = steady.stored;
    placed = steady.placed;
    done = λ rank filled arrived. absurd (dissolved_undone run.core rank filled arrived);
  }

  first_place_at : (core : State) (start : List L) (parcels : List (ℕ × T)) (rank : ℕ) → IsPlaced m setup core.epoch start rank (place (begun m setup core start parcels) rank)
  unfolding first_places
  first_place_at core start parcels rank = elim (cases_lt rank (m.ranks setup)) [
    | inl within ↦ let Q : Place → Type 0 = IsPlaced m setup core.epoch start rank in
        subst Q (sym (get_or-map-range_with_len (first_place m setup core.epoch start) 0 (m.ranks setup) rank rank Past within (omega arith)))
        (placed_from m setup core.epoch start rank (m.rounds setup core.epoch) 0 (omega arith))
    | inr past ↦ let Q : Place → Type 0 = IsPlaced m setup core.epoch start rank in
        subst Q (sym (get_or_past (map (first_place m setup core.epoch start) (range_with_len 0 (m.ranks setup))) rank Past
        (omega (arith, past, length-map-range_with_len (first_place m setup core.epoch start) 0 (m.ranks setup))))) tt
  ]

  -- a run whose next epoch begins in a state without arrivals
  begun_steady : (core : State) (start : List L) (parcels : List (ℕ × T)) → core.ranks ≡ m.ranks setup → core.shift ≡ m.shift setup → core.steps ≡ m.steps setup
      → core.interval ≡ m.interval setup → (core.epoch.time ≤ m.steps setup) × (core.epoch.target ≤ m.steps setup) → good setup core.epoch 0 start → core.stored ≡ m.stored start
      → ((rank : ℕ) (filled : Bool) → stage core rank ≡ Arrived Done filled → ⊥) → IsSteady (begun m setup core start parcels)
  unfolding first_places
  begun_steady core start parcels ranks shift steps interval within good_start stored undone = record {
    ranks = ranks;
    shift = shift;
    steps = steps;
    interval = interval;
    within = within;
    size = length-map-range_with_len (first_place m setup core.epoch start) 0 (m.ranks setup);
    good_start = good_start;
    stored = stored;
    placed = first_place_at core start parcels;
    done = λ rank filled arrived. absurd (undone rank filled arrived);
  }

-- the core after a decision
module _ {S L M T R : Type 0} (m : Meanings S L M T R) (setup : S) where
  pub decided_core : (run : Run L T) (made : Decision) → (run_decided m setup run made).core ≡ decided run.core made
  decided_core run (Lose home buddy) = refl
  decided_core run WantMemory = refl
  decided_core run Commit = at_end (run.core.epoch.target == run.core.steps)
    where
      at_end : (b : Bool) → (if b then record run { core = decided run.core Commit } else begun m setup (decided run.core Commit) (map m.keep (last_locals m setup run)) run.parcels).core
          ≡ decided run.core Commit
      at_end true = refl
      at_end false = refl
  decided_core run Restore = refl

-- who finished its rounds arrived done
finished_arrival : (s : Stage) → has_finished_rounds s ≡ true → (filled : Bool) × (s ≡ Arrived Done filled)
finished_arrival (Arrived Done filled) _ = (filled, refl)
finished_arrival (Arrived Broken filled) unfinished = absurd (cc)
finished_arrival (Arrived Memory filled) unfinished = absurd (cc)
finished_arrival Running unfinished = absurd (cc)
finished_arrival Leaving unfinished = absurd (cc)
finished_arrival Ended unfinished = absurd (cc)
finished_arrival Dead unfinished = absurd (cc)
finished_arrival Gone unfinished = absurd (cc)

target_within : (steps interval time : ℕ) → target_of steps interval time ≤ steps
target_within steps interval time = min_le (time + interval) steps
  where
    min_le : (a b : ℕ) → min a b ≤ b
    min_le a b = grind (arith)

module _ {S L M T R : Type 0} (m : Meanings S L M T R) (good : S → Epoch → ℕ → List L → Type 0) (setup : S)
    (goods : KeepsGood m good setup) (stores : KeepsStored m good setup) where
  pub last_good : (run : Run L T) → IsSteady m good setup run → good setup run.core.epoch (m.rounds setup run.core.epoch) (last_locals m setup run)
  unfolding last_locals
  last_good run steady = stays_good m good setup goods run.core.epoch run.start (m.rounds setup run.core.epoch) steady.good_start (omega arith)

  -- the filled flags of those who are done are those of the last locals
  flags_agree : (run : Run L T) → IsSteady m good setup run → Apart run.core.epoch.members
      → ((rank : ℕ) → is_member run.core.epoch.members rank ≡ true → has_finished_rounds (stage run.core rank) ≡ true)
      → filled_members run.core ≡ program.filled_members m run.core.epoch.members (last_locals m setup run)
  unfolding filled_members program.filled_members last_locals will_be_filled
  flags_agree run steady apart all_done =
      filter_members (λ rank. is_filled (stage run.core rank)) (λ rank. test_of m.filled (local_of run.core.epoch.members (last_locals m setup run) rank)) run.core.epoch.members
      (λ rank member. flag_of rank (finished_arrival (stage run.core rank) (all_done rank member)))
      ∙ keys_filtered m.filled run.core.epoch.members (last_locals m setup run) apart
      (goods.one_each run.core.epoch (m.rounds setup run.core.epoch) (last_locals m setup run) (last_good run steady))
    where
      flag_as : (rank : ℕ) (o : Option L) → local_of run.core.epoch.members (last_locals m setup run) rank ≡ o
          → will_be_filled m setup run rank ≡ test_of m.filled (local_of run.core.epoch.members (last_locals m setup run) rank)
      flag_as rank (Some local) found = rw found refl
      flag_as rank None none = rw none refl

      flag_of : (rank : ℕ) → (filled : Bool) × (stage run.core rank ≡ Arrived Done filled)
          → is_filled (stage run.core rank) ≡ test_of m.filled (local_of run.core.epoch.members (last_locals m setup run) rank)
      flag_of rank (filled, arrived) = ap is_filled arrived ∙ (steady.done rank filled arrived).1 ∙ flag_as rank (local_of run.core.epoch.members (last_locals m setup run) rank) refl

  committed_steady : (run : Run L T) (parcels : List (ℕ × T)) → IsSteady m good setup run → Apart run.core.epoch.members
      → ((rank : ℕ) → is_member run.core.epoch.members rank ≡ true → has_finished_rounds (stage run.core rank) ≡ true)
      → (run.core.epoch.target == run.core.steps) ≡ false
      → IsSteady m good setup (begun m setup (committed run.core) (map m.keep (last_locals m setup run)) parcels)
  unfolding dissolved
  committed_steady run parcels steady apart all_done unended =
      let goes : run.core.epoch.target < m.steps setup = below run.core.epoch.target (m.steps setup) steady.within.1
      (ap (λ n. run.core.epoch.target == n) (sym steady.steps) ∙ unended) in
      let kept : good setup (epoch_after_commit (m.steps setup) (m.interval setup) run.core.epoch) 0 (map m.keep (last_locals m setup run)) =
      goods.keep run.core.epoch (last_locals m setup run) (last_good run steady) goes in
      begun_steady m good setup (committed run.core) (map m.keep (last_locals m setup run)) parcels steady.ranks steady.shift steady.steps steady.interval
      (steady.within.1, limit run.core.steps run.core.interval run.core.epoch.target steady.steps)
      (moved run.core.steps run.core.interval steady.steps steady.interval kept)
      (flags_agree run steady apart all_done ∙ sym (stores.keep run.core.epoch (last_locals m setup run) (last_good run steady) goes))
      (λ rank filled arrived. dissolved_undone m good setup run.core rank filled arrived)
    where
      below : (a b : ℕ) → a ≤ b → (a == b) ≡ false → a < b
      below a b within differs = elim (cases_eq a b) [
        | inl same ↦ absurd (let e : true ≡ false = sym (eq-eqb a b same) ∙ differs in cc)
        | inr other ↦ omega (arith, within, other)
      ]

      limit : (steps interval time : ℕ) → steps ≡ m.steps setup → target_of steps interval time ≤ m.steps setup
      limit steps interval time same = let Q : ℕ → Type 0 = λ n. target_of steps interval time ≤ n in subst Q same (target_within steps interval time)

      moved : (steps interval : ℕ) → steps ≡ m.steps setup → interval ≡ m.interval setup
          → good setup (epoch_after_commit (m.steps setup) (m.interval setup) run.core.epoch) 0 (map m.keep (last_locals m setup run))
          → good setup (epoch_after_commit steps interval run.core.epoch) 0 (map m.keep (last_locals m setup run))
      moved steps interval same_steps same_interval is_good =
          let Q : Epoch → Type 0 = λ epoch. good setup epoch 0 (map m.keep (last_locals m setup run)) in
          subst Q (ap (λ n. epoch_after_commit n (m.interval setup) run.core.epoch) (sym same_steps) ∙ ap (λ n. epoch_after_commit steps n run.core.epoch) (sym same_interval)) is_good

  restored_steady : (run : Run L T) → IsSteady m good setup run → first_lost run.core ≡ None
      → IsSteady m good setup (begun m setup (restored run.core) (restored_locals m setup run.core.epoch (λ rank. lives (stage run.core rank)) run.start) [])
  unfolding dissolved live_members
  restored_steady run steady whole =
      let none : first_lost_of run.core.epoch.homes (m.stored run.start) (filter (λ rank. lives (stage run.core rank)) run.core.epoch.members) (m.shift setup) ≡ None =
      ap (λ stored. first_lost_of run.core.epoch.homes stored (filter (λ rank. lives (stage run.core rank)) run.core.epoch.members) (m.shift setup)) (sym steady.stored)
      ∙ ap (first_lost_of run.core.epoch.homes run.core.stored (filter (λ rank. lives (stage run.core rank)) run.core.epoch.members)) (sym steady.shift) ∙ whole in
      begun_steady m good setup (restored run.core) (restored_locals m setup run.core.epoch (λ rank. lives (stage run.core rank)) run.start) []
      steady.ranks steady.shift steady.steps steady.interval (steady.within.0, steady.within.0)
      (goods.restore run.core.epoch 0 run.start (λ rank. lives (stage run.core rank)) steady.good_start none)
      (steady.stored ∙ sym (stores.restore run.core.epoch 0 run.start (λ rank. lives (stage run.core rank)) steady.good_start none))
      (λ rank filled arrived. dissolved_undone m good setup run.core rank filled arrived)

  -- a decision keeps a run steady
  decided_steady : (run : Run L T) (made : Decision) → IsSteady m good setup run → Apart run.core.epoch.members
      → (made ≡ Commit → (rank : ℕ) → is_member run.core.epoch.members rank ≡ true → has_finished_rounds (stage run.core rank) ≡ true)
      → (made ≡ Restore → first_lost run.core ≡ None) → IsSteady m good setup (run_decided m setup run made)
  unfolding decided
  decided_steady run (Lose home buddy) steady apart all_done whole = ended_steady m good setup run (outcomes.Lost run.core.epoch.time home buddy) steady
  decided_steady run WantMemory steady apart all_done whole = ended_steady m good setup run outcomes.Memory steady
  decided_steady run Commit steady apart all_done whole = at_end (run.core.epoch.target == run.core.steps) refl
    where
      at_end : (b : Bool) → (run.core.epoch.target == run.core.steps) ≡ b
          → IsSteady m good setup (if b then record run { core = if b then ended run.core outcomes.Finished else committed run.core }
          else begun m setup (if b then ended run.core outcomes.Finished else committed run.core) (map m.keep (last_locals m setup run)) run.parcels)
      at_end true ends = ended_steady m good setup run outcomes.Finished steady
      at_end false unended = committed_steady run run.parcels steady apart (all_done refl) unended
  decided_steady run Restore steady apart all_done whole = restored_steady run steady (whole refl)

  settled_core : (run : Run L T) → (run_settled m setup run).core ≡ settled run.core
  unfolding settled
  settled_core run = by_ripe (is_ripe run.core)
    where
      by_ripe : (b : Bool) → (if b then run_decided m setup run (decision run.core) else run).core ≡ (if b then decided run.core (decision run.core) else run.core)
      by_ripe true = decided_core m setup run (decision run.core)
      by_ripe false = refl

  -- the core after an event
  pub core_next : (run : Run L T) (event : Event) → (next_run m setup run event).core ≡ next run.core event (will_be_filled m setup run (actor event))
  unfolding next_run
  core_next run event = by_event (may_decide event)
    where
      by_event : (may : Bool) → (if may then run_settled m setup (run_happened m setup run event) else run_happened m setup run event).core
          ≡ (if may then settled (happened run.core event (will_be_filled m setup run (actor event))) else happened run.core event (will_be_filled m setup run (actor event)))
      by_event true = settled_core (run_happened m setup run event)
      by_event false = refl

  -- what holds of every run that a journal tells
  pub record IsLawful (run : Run L T) : Type 0 where
    pub steady : IsSteady m good setup run
    pub sound : IsSound run.core
    pub fair : IsFair run.core

  pub next_lawful : (run : Run L T) (event : Event) → IsLawful run → is_legal_in m setup run event ≡ true → IsLawful (next_run m setup run event)
  unfolding is_legal_in next_run
  next_lawful run event lawful legal = record {
    steady = by_event (may_decide event);
    sound = subst IsSound (sym (core_next run event)) (next_sound run.core event (place run (actor event)) (will_be_filled m setup run (actor event)) lawful.sound core_legal);
    fair = subst IsFair (sym (core_next run event)) (next_fair run.core event (place run (actor event)) (will_be_filled m setup run (actor event)) core_legal lawful.fair);
  }
    where
      core_legal : is_legal run.core event (place run (actor event)) ≡ true
      core_legal = (and_parts (is_legal run.core event (place run (actor event))) _ legal).0

      before : IsSteady m good setup (run_happened m setup run event)
      before = happened_steady m good setup run event lawful.steady lawful.sound core_legal

      same : IsSameEpoch run.core (happened run.core event (will_be_filled m setup run (actor event)))
      same = same_epoch run.core event (will_be_filled m setup run (actor event))

      ripe_steady : is_ripe (happened run.core event (will_be_filled m setup run (actor event))) ≡ true
          → IsSteady m good setup (run_decided m setup (run_happened m setup run event) (decision (happened run.core event (will_be_filled m setup run (actor event)))))
      ripe_steady ripe =
          let members : (happened run.core event (will_be_filled m setup run (actor event))).epoch.members
          ≡ filter (λ rank. not (is_gone (stage run.core rank))) (range_with_len 0 run.core.ranks) =
          ap (λ epoch. epoch.members) same.epoch ∙ lawful.sound.members (sym same.outcome ∙ running_where_ripe (happened run.core event (will_be_filled m setup run (actor event))) ripe) in
          decided_steady (run_happened m setup run event) (decision (happened run.core event (will_be_filled m setup run (actor event)))) before
          (subst Apart (sym members) (apart_range (λ rank. not (is_gone (stage run.core rank))) 0 run.core.ranks))
          (λ commits rank member. commit_needs_members run.core event (place run (actor event)) (will_be_filled m setup run (actor event)) lawful.sound core_legal ripe commits rank
          (ap (λ epoch. is_member epoch.members rank) (sym same.epoch) ∙ member))
          (restore_when_whole (happened run.core event (will_be_filled m setup run (actor event))))

      by_ripe : (b : Bool) → is_ripe (happened run.core event (will_be_filled m setup run (actor event))) ≡ b
          → IsSteady m good setup (if b then run_decided m setup (run_happened m setup run event) (decision (happened run.core event (will_be_filled m setup run (actor event)))) else run_happened m setup run event)
      by_ripe true ripe = ripe_steady ripe
      by_ripe false unripe = before

      by_event : (may : Bool) → IsSteady m good setup (if may then run_settled m setup (run_happened m setup run event) else run_happened m setup run event)
      by_event true = by_ripe (is_ripe (happened run.core event (will_be_filled m setup run (actor event)))) refl
      by_event false = before

  pub opening_lawful : KeepsLimits m setup → IsLawful (opening_run m setup)
  unfolding opening_run opening
  opening_lawful limits = record {
    steady = begun_steady m good setup (opening (m.ranks setup) (m.laid setup) (m.deaths setup) (m.shift setup) (m.steps setup) (m.interval setup)) (m.opening setup) []
        refl refl refl refl (omega arith, target_within (m.steps setup) (m.interval setup) 0) goods.opening (sym stores.opening)
        (λ rank filled arrived. opening_runs rank filled arrived);
    sound = opening_sound (m.ranks setup) (m.laid setup) (m.deaths setup) (m.shift setup) (m.steps setup) (m.interval setup) limits.some_rank;
    fair = opening_fair (m.ranks setup) (m.laid setup) (m.deaths setup) (m.shift setup) (m.steps setup) (m.interval setup);
  }
    where
      opening_runs : (rank : ℕ) (filled : Bool) → stage (opening (m.ranks setup) (m.laid setup) (m.deaths setup) (m.shift setup) (m.steps setup) (m.interval setup)) rank ≡ Arrived Done filled → ⊥
      opening_runs rank filled arrived = let e : true ≡ false = sym (ap is_arrived arrived) ∙ opening_unarrived (m.ranks setup) (m.laid setup) (m.deaths setup) (m.shift setup) (m.steps setup) (m.interval setup) rank in absurd (cc)

  pub from_lawful : (run : Run L T) (journal : List Event) → IsLawful run → is_legal_from m setup run journal ≡ true → IsLawful (run_from m setup run journal)
  from_lawful run [] lawful legal = lawful
  from_lawful run (event ∷ events) lawful legal =
      from_lawful (next_run m setup run event) events (next_lawful run event lawful (and_parts (is_legal_in m setup run event) _ legal).0)
      (and_parts (is_legal_in m setup run event) _ legal).1

  pub after_lawful : KeepsLimits m setup → (journal : List Event) → is_journal m setup journal ≡ true → IsLawful (run_after m setup journal)
  unfolding run_after is_journal
  after_lawful limits journal legal = from_lawful (opening_run m setup) journal (opening_lawful limits) legal
