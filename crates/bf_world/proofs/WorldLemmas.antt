-- What a world keeps from call to call.
use Rattle.std.proofs.Common.{◌≡◌, ℕ, ◌+◌, ◌*◌, ◌≤◌, max, true, false, ◌&&◌, List, [], ◌∷◌, ◌++◌, length, get_or, arith, sym, subst, ◌∙◌, ap}
use Rattle.std.specs.Prelude.{Option, Some, None, if◌then◌else◌, Result, Ok, Err, is_err, OnOk}
use Rattle.std.proofs.lemmas.Bool.{eq-eqb, and_parts}
use Rattle.std.proofs.lemmas.Option.{slice_get-get_or, same_Some}
use Rattle.bf_buddy.specs.Members.{is_member}
use Rattle.bf_program.specs.declared.epoch.Epoch.{Epoch}
use Rattle.bf_program.specs.Meanings.{Meanings}
use Rattle.bf_program.specs.Laws.{KeepsLimits, KeepsGood, KeepsStored, KeepsPeers}
use Rattle.bf_core.specs.declared.event.Event.{Event}
use Rattle.bf_core.specs.declared.event.Event.TheVariants.{Send, Recv, Arrive, Leave, Die}
use Rattle.bf_core.specs.declared.event.How.TheVariants.{Done, Broken, Memory}
use Rattle.bf_core.specs.declared.place.Place.{Place}
use Rattle.bf_core.specs.declared.place.Place.TheVariants.{Rounds, Past}
use Rattle.bf_core.specs.declared.standing.Stage.TheVariants.{Running}
use Rattle.bf_core.specs.Places.{is_just, next_receive, PeersBelow}
use Rattle.bf_core.specs.States.{State, standing, stage, queue, channel, is_active}
use Rattle.bf_core.specs.Legal.{actor, waits, is_legal, IsLegalSomewhere}
use Rattle.bf_core.specs.Next.{next}
use Rattle.bf_core.proofs.SoundLemmas.{IsSound, acting}
use Rattle.bf_world.specs.Course.{peers_at}
use Rattle.bf_world.specs.Journals.{Noted}
use Rattle.bf_world.specs.Messages.{AreQueuesOf}
use Rattle.bf_world.specs.Queues.{Waiting}
use Rattle.bf_world.specs.Runs.{Run, place, will_be_filled, next_run, is_legal_in, run_after}
use Rattle.bf_world.specs.Worlds.{IsWorld, room_needed, brings_restore}
use Rattle.bf_world.proofs.PlaceLemmas.{IsPlaced}
use Rattle.bf_world.proofs.PeerLemmas.{member_at, peer_is_other}
use Rattle.bf_world.proofs.LawfulLemmas.{IsSteady, IsLawful, core_next, next_lawful, after_lawful}
use Rattle.bf_world.proofs.WaitingLemmas.{goes_on_while, member_below}
use Rattle.bf_world.proofs.RunLemmas.{run_more, journal_more, restores_more, events_within, queues_within}
use Rattle.bf_world.proofs.NeedLemmas.{need_bounded}

pub just_same : (o : Option ℕ) (n : ℕ) → o ≡ Some n → is_just o n ≡ true
just_same (Some k) n same = eq-eqb k n (same_Some _ _ same)
just_same None n same = absurd (cc)

-- what holds where a call did not fail
pub where_ok : {X E : Type 0} (r : Result X E) {P : Type 0} → is_err r ≡ false → OnOk r P → P
where_ok (Ok x) _ holds = holds
where_ok (Err e) fails holds = absurd (cc)

-- what a reserve leaves
pub room_made : (old wanted now : ℕ) → now ≡ max old wanted → (wanted ≤ now) × (old ≤ now)
room_made old wanted now is = (grind (arith), grind (arith))

-- room kept for one event more than may follow, once that is noted
pub room_after : (ranks count more old now later : ℕ) → more ≡ 3 * ranks + 1 → now ≡ max old more → later + 1 ≡ now → ranks ≡ count → 3 * count ≤ later
room_after ranks count more old now later more_is now_is later_is same = omega (arith, (room_made old more now now_is).0, more_is, later_is, same)

pub noted_after : (before now later : List Event) (event : Event) → later ≡ now ++ event ∷ [] → now ≡ before → later ≡ before ++ event ∷ []
noted_after before now later event is same = is ∙ ap (λ events. events ++ event ∷ []) same

pub room_left : (old now needed less : ℕ) → now + 1 ≡ old → needed ≤ old → less + 1 ≤ needed → less ≤ now
room_left old now needed less is had lower = omega (arith, is, had, lower)

module _ {S L M T R : Type 0} (m : Meanings S L M T R) (good : S → Epoch → ℕ → List L → Type 0) (setup : S)
    (limits : KeepsLimits m setup) (goods : KeepsGood m good setup) (stores : KeepsStored m good setup) (peers : KeepsPeers m good setup) where
  peers_fit : (run : Run L T) (rank : ℕ) (place : Place) → IsSteady m good setup run → IsSound run.core → stage run.core rank ≡ Running
      → IsPlaced m setup run.core.epoch run.start rank place → PeersBelow run.core.ranks place
  peers_fit run rank Past steady sound runs placed = tt
  peers_fit run rank (Rounds round sent received others) steady sound runs placed = λ k d below.
      let among : is_member (peers_at m setup run.core.epoch run.start rank round) (get_or others k d) ≡ true =
      ap (λ xs. is_member xs (get_or others k d)) (sym placed.peers_are) ∙ member_at others k (get_or others k d) (slice_get-get_or others k d below) in
      member_below run.core (get_or others k d) sound (goes_on_while run.core rank sound runs)
      (peer_is_other m good setup goods peers run.core.epoch run.start steady.good_start rank (get_or others k d) round placed.within among).0

  active_somewhere : (run : Run L T) (event : Event) (rank : ℕ) → IsLawful m good setup goods stores run → stage run.core rank ≡ Running
      → is_legal run.core event (place run rank) ≡ true → IsLegalSomewhere run.core event
  active_somewhere run event rank lawful runs legal =
      (place run rank, (peers_fit run rank (place run rank) lawful.steady lawful.sound runs (lawful.steady.placed rank), legal))

  somewhere : (run : Run L T) (event : Event) → IsLawful m good setup goods stores run → is_legal run.core event (place run (actor event)) ≡ true
      → IsLegalSomewhere run.core event
  somewhere run (Send rank to blocks sum) lawful legal =
      active_somewhere run (Send rank to blocks sum) rank lawful (acting run.core rank (and_parts (is_active run.core rank) _ legal).0) legal
  somewhere run (Recv rank peer) lawful legal =
      active_somewhere run (Recv rank peer) rank lawful
      (acting run.core rank (and_parts (is_active run.core rank) _ (and_parts (is_active run.core rank && is_just (next_receive (place run rank)) peer) _ legal).0).0) legal
  somewhere run (Arrive rank Done) lawful legal =
      active_somewhere run (Arrive rank Done) rank lawful (acting run.core rank (and_parts (is_active run.core rank) _ legal).0) legal
  somewhere run (Arrive rank Broken) lawful legal =
      active_somewhere run (Arrive rank Broken) rank lawful
      (acting run.core rank (and_parts (is_active run.core rank) _ (and_parts (is_active run.core rank && waits run.core rank (place run rank)) _ legal).0).0) legal
  somewhere run (Arrive rank Memory) lawful legal = active_somewhere run (Arrive rank Memory) rank lawful (acting run.core rank legal) legal
  somewhere run (Leave rank) lawful legal = (Past, (tt, legal))
  somewhere run (Die rank) lawful legal = (Past, (tt, legal))

  pub legal_alone : (run : Run L T) (event : Event) → is_legal_in m setup run event ≡ true → is_legal run.core event (place run (actor event)) ≡ true
  unfolding is_legal_in
  legal_alone run event legal = (and_parts (is_legal run.core event (place run (actor event))) _ legal).0

  -- the fields of a world
  module _ (core : State) (waiting : Waiting M) (noted : Noted) (parcels : List (ℕ × T)) (restores : ℕ)
      (world : IsWorld m setup core waiting noted parcels restores) where
    abbrev run : Run L T
    run = run_after m setup noted.events

    pub its_lawful : IsLawful m good setup goods stores (run_after m setup noted.events)
    its_lawful = after_lawful m good setup goods stores limits noted.events world.legal

    pub its_ranks : core.ranks ≡ m.ranks setup
    its_ranks = ap (λ state. state.ranks) world.core_is ∙ its_lawful.steady.ranks

    pub legal_somewhere : (event : Event) → is_legal_in m setup (run_after m setup noted.events) event ≡ true → IsLegalSomewhere core event
    legal_somewhere event legal = subst (λ state. IsLegalSomewhere state event) (sym world.core_is) (somewhere run event its_lawful (legal_alone run event legal))

    pub events_counted : (events : List Event) (rank : ℕ) → events ≡ noted.events → (standing core rank).events ≤ length events
    events_counted events rank same =
        let had : (standing core rank).events ≡ (standing (run_after m setup noted.events).core rank).events = ap (λ state. (standing state rank).events) world.core_is in
        omega (arith, had, events_within m good setup goods stores noted.events rank, ap length same)

    pub queues_counted : (events : List Event) (from to : ℕ) → events ≡ noted.events → queue core from to ≤ length events
    queues_counted events from to same =
        let had : queue core from to ≡ queue (run_after m setup noted.events).core from to = ap (λ state. queue state from to) world.core_is in
        omega (arith, had, queues_within m good setup goods stores noted.events (channel (run_after m setup noted.events).core.ranks from to), ap length same)

    -- the world after a legal event
    module _ (event : Event) (core_later : State) (waiting_later : Waiting M) (later : Noted) (parcels_later : List (ℕ × T)) (restores_later : ℕ)
        (legal : is_legal_in m setup (run_after m setup noted.events) event ≡ true)
        (events_are : later.events ≡ noted.events ++ event ∷ [])
        (core_later_is : core_later ≡ next core event (will_be_filled m setup (run_after m setup noted.events) (actor event))) where
      core_is_next : core_later ≡ (next_run m setup run event).core
      core_is_next = core_later_is ∙ ap (λ state. next state event (will_be_filled m setup run (actor event))) world.core_is ∙ sym (core_next m good setup goods stores run event)

      later_lawful : IsLawful m good setup goods stores (next_run m setup (run_after m setup noted.events) event)
      later_lawful = next_lawful m good setup goods stores run event its_lawful legal

      pub need_within : room_needed core_later ≤ 3 * m.ranks setup
      need_within =
          let size : length core_later.standings ≡ m.ranks setup =
          ap (λ state. length state.standings) core_is_next ∙ later_lawful.sound.size ∙ later_lawful.steady.ranks in
          omega (arith, need_bounded core_later, size)

      pub world_next : AreQueuesOf m setup (next_run m setup (run_after m setup noted.events) event) waiting_later
          → parcels_later ≡ (next_run m setup (run_after m setup noted.events) event).parcels
          → room_needed core_later ≤ later.room
          → restores_later ≡ (if brings_restore m setup (run_after m setup noted.events) event then restores + 1 else restores)
          → IsWorld m setup core_later waiting_later later parcels_later restores_later
      world_next queues parcels_are room restores_are =
          let P : List Event → Type 0 = λ events. IsWorld m setup core_later waiting_later (record { events = events; room = later.room }) parcels_later restores_later in
          let is : run_after m setup (noted.events ++ event ∷ []) ≡ next_run m setup run event = run_more m setup noted.events event in
          subst P (sym events_are) (record {
            legal = journal_more m setup noted.events event world.legal legal;
            core_is = core_is_next ∙ ap (λ r. r.core) (sym is);
            queues = subst (λ r. AreQueuesOf m setup r waiting_later) (sym is) queues;
            parcels_are = parcels_are ∙ ap (λ r. r.parcels) (sym is);
            room = room;
            restores_are = restores_are
                ∙ ap (λ n. if brings_restore m setup run event then n + 1 else n) world.restores_are
                ∙ sym (restores_more m setup noted.events event);
          })
