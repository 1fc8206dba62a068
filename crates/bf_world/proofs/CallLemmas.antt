-- The calls of a world: each notes a legal event, and leaves a world.
use Rattle.std.proofs.Common.{◌≡◌, ℕ, ◌+◌, ◌-◌, ◌*◌, ◌^◌, ◌<◌, ◌≤◌, Bool, true, false, ◌&&◌, ◌||◌, not, List, [], ◌∷◌, ◌++◌, filter, drop, length, arith, refl, sym, subst, ◌∙◌, ap}
use Rattle.std.specs.Prelude.{◌==◌, Option, Some, None, slice_get, if◌then◌else◌}
use Rattle.std.proofs.lemmas.Bool.{eq-eqb, eqb-true, and_parts, and_from}
use Rattle.std.proofs.lemmas.Option.{slice_get_within}
use Rattle.std.proofs.lemmas.List.{append-nil}
use Rattle.bf_program.specs.declared.epoch.Epoch.{Epoch}
use Rattle.bf_program.specs.declared.measure.Measure.{Measure}
use Rattle.bf_program.specs.Meanings.{Meanings}
use Rattle.bf_program.specs.Laws.{KeepsLimits, KeepsGood, KeepsStored, KeepsPeers}
use Rattle.bf_core.specs.declared.decision.Decision.{Decision}
use Rattle.bf_core.specs.declared.event.Event.{Event}
use Rattle.bf_core.specs.declared.event.Event.TheVariants.{Send, Recv, Arrive, Leave, Die}
use Rattle.bf_core.specs.declared.event.How.{How}
use Rattle.bf_core.specs.declared.event.How.TheVariants.{Done, Broken, Memory}
use Rattle.bf_core.specs.declared.standing.Stage.TheVariants.{Arrived, Dead}
use Rattle.bf_core.specs.Stages.{is_leaving, is_arrived, goes_on}
use Rattle.bf_core.specs.Places.{is_past, round_of}
use Rattle.bf_core.specs.States.{State, stage, queue, is_due, is_active, has_dead_member}
use Rattle.bf_core.specs.Legal.{actor, waits, is_empty_from}
use Rattle.bf_core.specs.Next.{may_decide, happened, is_ripe, settled, next, with_stage}
use Rattle.bf_core.proofs.NextLemmas.{next_settings}
use Rattle.bf_core.proofs.StageLemmas.{is_rank, stage_same}
use Rattle.bf_core.proofs.SoundLemmas.{acting, in_list}
use Rattle.bf_world.specs.declared.answers.Arrival.TheVariants as arrivals
use Rattle.bf_world.specs.Course.{message_at}
use Rattle.bf_world.specs.Journals.{Noted}
use Rattle.bf_world.specs.Messages.{AreQueuesOf}
use Rattle.bf_world.specs.Queues.{Waiting, messages, with_messages, no_messages}
use Rattle.bf_world.specs.Runs.{Run, place, will_be_filled, parcel_of, run_happened, run_settled, next_run, is_measured, is_legal_in, run_after}
use Rattle.bf_world.specs.Settled.{waiting_settled, parcels_settled, restores_settled, given}
use Rattle.bf_world.specs.Worlds.{View, IsWorld, IsParcel, ArrivesAs, SendsNext, ReceivesNext, core_after, place_after, message_after, room_needed, is_restore, brings_decision, brings_restore}
use Rattle.bf_world.proofs.HoldLemmas.{first_and_rest}
use Rattle.bf_world.proofs.LawfulLemmas.{IsLawful}
use Rattle.bf_world.proofs.WaitingLemmas.{GoBetween, between, queue_length, settled_queues, arrived_queues, died_queues, left_queues, sends_legally, send_queues, next_waits, receive_queues}
use Rattle.bf_world.proofs.MessageLemmas.{receives_from_peer}
use Rattle.bf_world.proofs.NeedLemmas.{need_short, need_left, need_died}
use Rattle.bf_world.proofs.StopLemmas.{is_stopped, no_restore, waiting_told, parcels_told, restores_told}
use Rattle.bf_world.proofs.WeightLemmas.{restores_few}
use Rattle.bf_world.proofs.WorldLemmas.{just_same, room_left, its_lawful, legal_alone, need_within, world_next}

-- what is asked of a world as it is seen, of its fields
pub of_fields : {S M T : Type 0} (P : S → List Event → Waiting M → List (ℕ × T) → Type 0) (setup : S) (journal : List Event) (waiting : Waiting M) (parcels : List (ℕ × T)) (view : View S M T)
    → record { setup = setup; journal = journal; waiting = waiting; parcels = parcels } ≡ view → P view.setup view.journal view.waiting view.parcels → P setup journal waiting parcels
of_fields {S = S} {M = M} {T = T} P setup journal waiting parcels view is holds =
    subst (λ (v : View S M T). P v.setup v.journal v.waiting v.parcels) (sym is) holds

-- and the other way
pub as_seen : {S M T : Type 0} (P : S → List Event → Waiting M → List (ℕ × T) → Type 0) (setup : S) (journal : List Event) (waiting : Waiting M) (parcels : List (ℕ × T)) (view : View S M T)
    → record { setup = setup; journal = journal; waiting = waiting; parcels = parcels } ≡ view → P setup journal waiting parcels → P view.setup view.journal view.waiting view.parcels
as_seen {S = S} {M = M} {T = T} P setup journal waiting parcels view is holds =
    subst (λ (v : View S M T). P v.setup v.journal v.waiting v.parcels) is holds

-- no event changes how many ranks there are
pub rank_later : (core core_later : State) (event : Event) (filled : Bool) (rank : ℕ) → core_later ≡ next core event filled → rank < core.ranks → rank < core_later.ranks
rank_later core core_later event filled rank is below =
    let same : core_later.ranks ≡ core.ranks = ap (λ state. state.ranks) is ∙ (next_settings core event filled).ranks in omega (arith, same, below)

module _ {S L M T R : Type 0} (m : Meanings S L M T R) (good : S → Epoch → ℕ → List L → Type 0) (setup : S)
    (limits : KeepsLimits m setup) (goods : KeepsGood m good setup) (stores : KeepsStored m good setup) (peers : KeepsPeers m good setup)
    (core : State) (waiting : Waiting M) (noted : Noted) (parcels : List (ℕ × T)) (restores : ℕ)
    (world : IsWorld m setup core waiting noted parcels restores) where
  abbrev run : Run L T
  run = run_after m setup noted.events

  lawful : IsLawful m good setup goods stores (run_after m setup noted.events)
  lawful = its_lawful m good setup limits goods stores peers core waiting noted parcels restores world

  -- so few restores have come that one more can be counted
  pub countable : restores < 2 ^ 32 - 1
  countable = omega (arith, world.restores_are, restores_few m good setup goods stores peers limits noted.events world.legal, limits.ranks)

  -- an event that decides nothing brings no restore
  brings_none : (event : Event) → may_decide event ≡ false
      → restores ≡ (if brings_restore m setup run event then restores + 1 else restores)
  unfolding brings_restore brings_decision
  brings_none event never = ap (λ b. if b then restores + 1 else restores) (sym (none (may_decide event) never _ _))
    where
      none : (b : Bool) → b ≡ false → (c : Bool) (made : Decision) → is_restore (b && c) made ≡ false
      none true may c made = absurd (cc)
      none false _ c made = no_restore made

  pub sends_legal : (rank to : ℕ) (msg : M) → SendsNext m setup noted.events rank to msg
      → is_legal_in m setup (run_after m setup noted.events) (Send rank to (m.measure msg).blocks (m.measure msg).sum) ≡ true
  unfolding is_legal_in
  sends_legal rank to msg sends =
      and_from _ _ (and_from _ _ sends.active (just_same _ to sends.next))
      (ap (λ o. is_measured m setup o (m.measure msg).blocks (m.measure msg).sum) sends.its ∙ and_from _ _ (eq-eqb (m.measure msg).blocks (m.measure msg).blocks refl) (eq-eqb (m.measure msg).sum (m.measure msg).sum refl))

  pub measured_legal : (rank to : ℕ) (msg : M) (measured : Measure) → measured ≡ m.measure msg → SendsNext m setup noted.events rank to msg
      → is_legal_in m setup (run_after m setup noted.events) (Send rank to measured.blocks measured.sum) ≡ true
  measured_legal rank to msg measured is sends =
      subst (λ w. is_legal_in m setup (run_after m setup noted.events) (Send rank to w.blocks w.sum) ≡ true) (sym is) (sends_legal rank to msg sends)

  pub sends_between : (rank to : ℕ) (msg : M) → SendsNext m setup noted.events rank to msg → GoBetween m setup (run_after m setup noted.events) rank to
  sends_between rank to msg sends =
      (sends_legally m good setup goods peers run rank to (m.measure msg).blocks (m.measure msg).sum lawful.steady lawful.sound
      (legal_alone m good setup limits goods stores peers run _ (sends_legal rank to msg sends))).1

  pub world_sent : (rank to : ℕ) (msg : M) (core_later : State) (waiting_later : Waiting M) (later : Noted) → SendsNext m setup noted.events rank to msg
      → later.events ≡ noted.events ++ Send rank to (m.measure msg).blocks (m.measure msg).sum ∷ []
      → core_later ≡ next core (Send rank to (m.measure msg).blocks (m.measure msg).sum) false
      → waiting_later ≡ with_messages waiting rank to (messages waiting rank to ++ msg ∷ []) → 3 * m.ranks setup ≤ later.room
      → IsWorld m setup core_later waiting_later later parcels restores
  unfolding next_run
  world_sent rank to msg core_later waiting_later later sends events_are core_is waiting_is room =
      let event : Event = Send rank to (m.measure msg).blocks (m.measure msg).sum in
      let legal : is_legal_in m setup (run_after m setup noted.events) event ≡ true = sends_legal rank to msg sends in
      let needs : room_needed core_later ≤ 3 * m.ranks setup =
      need_within m good setup limits goods stores peers core waiting noted parcels restores world event core_later waiting_later later parcels restores legal events_are core_is in
      world_next m good setup limits goods stores peers core waiting noted parcels restores world event core_later waiting_later later parcels restores legal events_are core_is
      (subst (AreQueuesOf m setup (next_run m setup run event)) (sym waiting_is)
      (send_queues m good setup goods peers run waiting rank to (m.measure msg).blocks (m.measure msg).sum msg lawful.steady lawful.sound world.queues
      (legal_alone m good setup limits goods stores peers run event legal) sends.its))
      world.parcels_are (omega (arith, needs, room)) (brings_none event refl)

  pub receives_between : (rank peer : ℕ) → ReceivesNext m setup noted.events rank peer → GoBetween m setup (run_after m setup noted.events) rank peer
  receives_between rank peer receives =
      between m good setup goods peers run rank peer lawful.steady lawful.sound (acting run.core rank receives.active)
      (receives_from_peer m setup run.core.epoch run.start rank peer (place run rank) (lawful.steady.placed rank) receives.next)

  queue_is : (from to : ℕ) → queue run.core from to ≡ length (messages waiting from to)
  queue_is from to = queue_length run.core waiting from to world.queues.counts (world.queues.ranks ∙ sym lawful.steady.ranks)

  pub world_measured : (rank to : ℕ) (msg : M) (measured : Measure) (core_later : State) (waiting_later : Waiting M) (later : Noted) → measured ≡ m.measure msg
      → SendsNext m setup noted.events rank to msg
      → later.events ≡ noted.events ++ Send rank to measured.blocks measured.sum ∷ [] → core_later ≡ next core (Send rank to measured.blocks measured.sum) false
      → waiting_later ≡ with_messages waiting rank to (messages waiting rank to ++ msg ∷ []) → 3 * m.ranks setup ≤ later.room
      → IsWorld m setup core_later waiting_later later parcels restores
  world_measured rank to msg measured core_later waiting_later later is sends events_are core_is waiting_is room =
      world_sent rank to msg core_later waiting_later later sends (events_are ∙ ap (λ w. noted.events ++ Send rank to w.blocks w.sum ∷ []) is)
      (core_is ∙ ap (λ w. next core (Send rank to w.blocks w.sum) false) is) waiting_is room

  -- where a message waits, its receive is legal
  pub receives_legal : (rank peer : ℕ) → ReceivesNext m setup noted.events rank peer → 0 < length (messages waiting peer rank)
      → is_legal_in m setup (run_after m setup noted.events) (Recv rank peer) ≡ true
  unfolding is_legal_in
  receives_legal rank peer receives some =
      and_from _ _ (and_from _ _ (and_from _ _ receives.active (just_same _ peer receives.next))
      (ap (λ o. not (is_empty_from run.core rank o)) receives.next ∙ waits_not (queue run.core peer rank) (queue run.core peer rank == 0) refl had)) refl
    where
      had : 0 < queue run.core peer rank
      had = omega (arith, some, queue_is peer rank)

      waits_not : (n : ℕ) (b : Bool) → (n == 0) ≡ b → 0 < n → not b ≡ true
      waits_not n true none below = absurd (omega (arith, below, eqb-true n 0 none))
      waits_not n false some below = refl

  -- the front is the lockstep's message
  pub front_got : (rank peer : ℕ) (msg : M) → ReceivesNext m setup noted.events rank peer → slice_get (messages waiting peer rank) 0 ≡ Some msg
      → (messages waiting peer rank ≡ msg ∷ drop 1 (messages waiting peer rank))
      × (message_after m setup noted.events peer rank (round_of (place_after m setup noted.events rank)) ≡ Some msg)
  front_got rank peer msg receives front =
      let some : 0 < length (messages waiting peer rank) = slice_get_within (messages waiting peer rank) 0 msg front in
      let waits : (its : M) × (slice_get (messages waiting peer rank) 0 ≡ Some its)
      × (message_at m setup run.core.epoch run.start peer rank (round_of (place run rank)) ≡ Some its) =
      next_waits m good setup goods peers run waiting rank peer lawful.steady lawful.sound world.queues
      (legal_alone m good setup limits goods stores peers run (Recv rank peer) (receives_legal rank peer receives some)) in
      (first_and_rest (messages waiting peer rank) msg front, waits.2 ∙ sym waits.1 ∙ front)

  pub world_received : (rank peer : ℕ) (core_later : State) (waiting_later : Waiting M) (later : Noted) → ReceivesNext m setup noted.events rank peer
      → 0 < length (messages waiting peer rank) → later.events ≡ noted.events ++ Recv rank peer ∷ [] → core_later ≡ next core (Recv rank peer) false
      → waiting_later ≡ with_messages waiting peer rank (drop 1 (messages waiting peer rank)) → 3 * m.ranks setup ≤ later.room
      → IsWorld m setup core_later waiting_later later parcels restores
  unfolding next_run
  world_received rank peer core_later waiting_later later receives some events_are core_is waiting_is room =
      let legal : is_legal_in m setup (run_after m setup noted.events) (Recv rank peer) ≡ true = receives_legal rank peer receives some in
      let needs : room_needed core_later ≤ 3 * m.ranks setup =
      need_within m good setup limits goods stores peers core waiting noted parcels restores world (Recv rank peer) core_later waiting_later later parcels restores legal events_are core_is in
      world_next m good setup limits goods stores peers core waiting noted parcels restores world (Recv rank peer) core_later waiting_later later parcels restores legal events_are core_is
      (subst (AreQueuesOf m setup (next_run m setup run (Recv rank peer))) (sym waiting_is)
      (receive_queues m good setup goods peers run waiting rank peer lawful.steady lawful.sound world.queues
      (legal_alone m good setup limits goods stores peers run (Recv rank peer) legal)))
      world.parcels_are (omega (arith, needs, room)) (brings_none (Recv rank peer) refl)

  -- a rank that waits while a member is dead may break off
  pub breaks_legal : (rank peer : ℕ) → ReceivesNext m setup noted.events rank peer → messages waiting peer rank ≡ [] → has_dead_member core ≡ true
      → is_legal_in m setup (run_after m setup noted.events) (Arrive rank Broken) ≡ true
  unfolding is_legal_in
  breaks_legal rank peer receives none dead =
      and_from _ _ (and_from _ _ (and_from _ _ receives.active
      (ap (is_empty_from run.core rank) receives.next ∙ eq-eqb (queue run.core peer rank) 0 (queue_is peer rank ∙ ap length none)))
      (ap has_dead_member (sym world.core_is) ∙ dead)) refl

  pub shorts_legal : (rank : ℕ) → is_active (core_after m setup noted.events) rank ≡ true → is_legal_in m setup (run_after m setup noted.events) (Arrive rank Memory) ≡ true
  unfolding is_legal_in
  shorts_legal rank active = and_from _ _ active refl

  pub dones_legal : (rank : ℕ) → is_active (core_after m setup noted.events) rank ≡ true → is_past (place_after m setup noted.events rank) ≡ true
      → is_legal_in m setup (run_after m setup noted.events) (Arrive rank Done) ≡ true
  unfolding is_legal_in
  dones_legal rank active past = and_from _ _ (and_from _ _ active past) refl

  pub dies_legal : (rank : ℕ) → is_due (core_after m setup noted.events) rank ≡ true → is_legal_in m setup (run_after m setup noted.events) (Die rank) ≡ true
  unfolding is_legal_in
  dies_legal rank due = and_from _ _ due refl

  pub leaves_legal : (rank : ℕ) → is_leaving (stage (core_after m setup noted.events) rank) ≡ true → is_due (core_after m setup noted.events) rank ≡ false
      → is_legal_in m setup (run_after m setup noted.events) (Leave rank) ≡ true
  unfolding is_legal_in
  leaves_legal rank leaving undue = and_from _ _ (and_from _ _ leaving (ap not undue)) refl

  pub world_left : (rank : ℕ) (core_later : State) (later : Noted) → is_leaving (stage (core_after m setup noted.events) rank) ≡ true
      → is_due (core_after m setup noted.events) rank ≡ false → later.events ≡ noted.events ++ Leave rank ∷ [] → core_later ≡ next core (Leave rank) false
      → later.room + 1 ≡ noted.room → IsWorld m setup core_later waiting later parcels restores
  unfolding next_run
  world_left rank core_later later leaving undue events_are core_is room =
      let needs : room_needed core_later + 1 ≤ room_needed core =
      subst (λ state. room_needed state + 1 ≤ room_needed core) (sym core_is) (need_left core rank false (ap (λ state. is_leaving (stage state rank)) world.core_is ∙ leaving)) in
      world_next m good setup limits goods stores peers core waiting noted parcels restores world (Leave rank) core_later waiting later parcels restores
      (leaves_legal rank leaving undue) events_are core_is (left_queues m setup run waiting rank world.queues)
      world.parcels_are (room_left noted.room later.room (room_needed core) (room_needed core_later) room world.room needs) (brings_none (Leave rank) refl)

  -- an arrival or a death
  module _ (event : Event) (rank : ℕ) (before : List (ℕ × T)) (core_later : State) (waiting_later : Waiting M) (later : Noted)
      (parcels_later : List (ℕ × T)) (restores_later : ℕ) where
    pub world_stopped : may_decide event ≡ true → is_legal_in m setup (run_after m setup noted.events) event ≡ true
        → is_stopped (stage (happened run.core event (will_be_filled m setup run (actor event))) rank) ≡ true
        → AreQueuesOf m setup (run_happened m setup run event) waiting → before ≡ (run_happened m setup run event).parcels
        → later.events ≡ noted.events ++ event ∷ [] → core_later ≡ next core event (will_be_filled m setup (run_after m setup noted.events) (actor event))
        → waiting_later ≡ waiting_settled core_later rank waiting → parcels_later ≡ parcels_settled core_later rank before
        → restores_later ≡ restores_settled core_later rank restores → room_needed core_later ≤ later.room
        → IsWorld m setup core_later waiting_later later parcels_later restores_later
    unfolding next_run
    world_stopped may legal stopped queues before_is events_are core_is waiting_is parcels_is restores_is room =
        world_next m good setup limits goods stores peers core waiting noted parcels restores world event core_later waiting_later later parcels_later restores_later
        legal events_are core_is
        (subst (AreQueuesOf m setup (next_run m setup run event)) (sym queue_told) queues_next)
        (parcels_is ∙ ap (parcels_settled core_later rank) before_is ∙ parcels_told m setup run event rank may stopped core_later settled_is)
        room
        (restores_is ∙ restores_told m setup run event rank may stopped core_later settled_is restores)
      where
        settled_is : core_later ≡ settled (happened run.core event (will_be_filled m setup run (actor event)))
        settled_is =
            core_is ∙ ap (λ state. next state event (will_be_filled m setup run (actor event))) world.core_is
            ∙ ap (λ b. if b then settled (happened run.core event (will_be_filled m setup run (actor event))) else happened run.core event (will_be_filled m setup run (actor event))) may

        queue_told : waiting_later ≡ (if is_ripe (run_happened m setup run event).core then no_messages (m.ranks setup) else waiting)
        queue_told =
            waiting_is ∙ waiting_told m setup run event rank may stopped core_later settled_is waiting
            ∙ ap (λ n. if is_ripe (run_happened m setup run event).core then no_messages n else waiting) world.queues.ranks

        queues_next : AreQueuesOf m setup (next_run m setup run event) (if is_ripe (run_happened m setup run event).core then no_messages (m.ranks setup) else waiting)
        queues_next =
            subst (λ b. AreQueuesOf m setup (if b then run_settled m setup (run_happened m setup run event) else run_happened m setup run event)
            (if is_ripe (run_happened m setup run event).core then no_messages (m.ranks setup) else waiting)) (sym may)
            (settled_queues m setup (run_happened m setup run event) waiting queues)

  pub broken_active : (rank : ℕ) → is_legal_in m setup (run_after m setup noted.events) (Arrive rank Broken) ≡ true → is_active (core_after m setup noted.events) rank ≡ true
  broken_active rank legal =
      (and_parts (is_active run.core rank) _
      (and_parts (is_active run.core rank && waits run.core rank (place run rank)) _ (legal_alone m good setup limits goods stores peers run (Arrive rank Broken) legal)).0).0

  arrived_stage : (rank : ℕ) (how : How) (filled : Bool) → is_active (core_after m setup noted.events) rank ≡ true
      → is_stopped (stage (with_stage (core_after m setup noted.events) rank (Arrived how filled)) rank) ≡ true
  arrived_stage rank how filled active = ap is_stopped (stage_same run.core rank (Arrived how filled) (in_list run.core rank (acting run.core rank active)))

  within : (rank : ℕ) → rank < length (core_after m setup noted.events).standings → rank < core.ranks
  within rank below = omega (arith, below, lawful.sound.size, ap (λ state. state.ranks) world.core_is)

  pub active_within : (rank : ℕ) → is_active (core_after m setup noted.events) rank ≡ true → rank < core.ranks
  active_within rank active = within rank (in_list run.core rank (acting run.core rank active))

  pub due_within : (rank : ℕ) → is_due (core_after m setup noted.events) rank ≡ true → rank < core.ranks
  due_within rank due = within rank (is_rank goes_on run.core rank refl (and_parts (goes_on (stage run.core rank)) _ due).0)

  pub arrived_within : (rank : ℕ) → (is_arrived (stage (core_after m setup noted.events) rank) || is_leaving (stage (core_after m setup noted.events) rank)) ≡ true → rank < core.ranks
  arrived_within rank arrived = within rank (is_rank (λ s. is_arrived s || is_leaving s) run.core rank refl arrived)

  -- there is room for what needs no memory
  pub short_room : (rank : ℕ) → is_active (core_after m setup noted.events) rank ≡ true → 0 < noted.room
  short_room rank active = omega (arith, need_short core rank false (ap (λ state. is_active state rank) world.core_is ∙ active), world.room)

  pub left_room : (rank : ℕ) → is_leaving (stage (core_after m setup noted.events) rank) ≡ true → 0 < noted.room
  left_room rank leaving = omega (arith, need_left core rank false (ap (λ state. is_leaving (stage state rank)) world.core_is ∙ leaving), world.room)

  pub died_room : (rank : ℕ) → is_due (core_after m setup noted.events) rank ≡ true → 0 < noted.room
  died_room rank due = omega (arith, need_died core rank false (ap (λ state. is_due state rank) world.core_is ∙ due), world.room)

  -- a rank arrives
  module _ (rank : ℕ) (core_later : State) (waiting_later : Waiting M) (later : Noted) (parcels_later : List (ℕ × T)) (restores_later : ℕ)
      (waiting_is : waiting_later ≡ waiting_settled core_later rank waiting) (restores_is : restores_later ≡ restores_settled core_later rank restores) where
    pub world_short : is_active (core_after m setup noted.events) rank ≡ true → later.events ≡ noted.events ++ Arrive rank Memory ∷ []
        → core_later ≡ next core (Arrive rank Memory) false → parcels_later ≡ parcels_settled core_later rank parcels → later.room + 1 ≡ noted.room
        → IsWorld m setup core_later waiting_later later parcels_later restores_later
    world_short active events_are core_is parcels_is room =
        let needs : room_needed core_later + 1 ≤ room_needed core =
        subst (λ state. room_needed state + 1 ≤ room_needed core) (sym core_is) (need_short core rank false (ap (λ state. is_active state rank) world.core_is ∙ active)) in
        world_stopped (Arrive rank Memory) rank parcels core_later waiting_later later parcels_later restores_later refl (shorts_legal rank active)
        (arrived_stage rank Memory false active) (arrived_queues m setup run waiting rank Memory world.queues) world.parcels_are events_are core_is
        waiting_is parcels_is restores_is (room_left noted.room later.room (room_needed core) (room_needed core_later) room world.room needs)

    pub world_broken : is_legal_in m setup (run_after m setup noted.events) (Arrive rank Broken) ≡ true → later.events ≡ noted.events ++ Arrive rank Broken ∷ []
        → core_later ≡ next core (Arrive rank Broken) false → parcels_later ≡ parcels_settled core_later rank parcels → 3 * m.ranks setup ≤ later.room
        → IsWorld m setup core_later waiting_later later parcels_later restores_later
    world_broken legal events_are core_is parcels_is room =
        let needs : room_needed core_later ≤ 3 * m.ranks setup =
        need_within m good setup limits goods stores peers core waiting noted parcels restores world (Arrive rank Broken) core_later waiting_later later parcels_later restores_later legal events_are core_is in
        world_stopped (Arrive rank Broken) rank parcels core_later waiting_later later parcels_later restores_later refl legal
        (arrived_stage rank Broken false (broken_active rank legal)) (arrived_queues m setup run waiting rank Broken world.queues) world.parcels_are events_are core_is
        waiting_is parcels_is restores_is (omega (arith, needs, room))

    pub world_done : (filled : Bool) (parcel : Option T) (before : List (ℕ × T)) → is_active (core_after m setup noted.events) rank ≡ true
        → ArrivesAs m setup noted.events rank (arrivals.Done filled parcel)
        → later.events ≡ noted.events ++ Arrive rank Done ∷ [] → core_later ≡ next core (Arrive rank Done) filled
        → before ≡ parcels ++ given rank parcel → parcels_later ≡ parcels_settled core_later rank before → 3 * m.ranks setup ≤ later.room
        → IsWorld m setup core_later waiting_later later parcels_later restores_later
    world_done filled parcel before active its events_are core_is before_is parcels_is room =
        let legal : is_legal_in m setup (run_after m setup noted.events) (Arrive rank Done) ≡ true = dones_legal rank active its.0 in
        let core_next : core_later ≡ next core (Arrive rank Done) (will_be_filled m setup run rank) = core_is ∙ ap (next core (Arrive rank Done)) its.1.0 in
        let needs : room_needed core_later ≤ 3 * m.ranks setup =
        need_within m good setup limits goods stores peers core waiting noted parcels restores world (Arrive rank Done) core_later waiting_later later parcels_later restores_later legal events_are core_next in
        world_stopped (Arrive rank Done) rank before core_later waiting_later later parcels_later restores_later refl legal
        (arrived_stage rank Done (will_be_filled m setup run rank) active) (arrived_queues m setup run waiting rank Done world.queues)
        (before_is ∙ parcels_given parcel its.1.1) events_are core_next
        waiting_is parcels_is restores_is (omega (arith, needs, room))
      where
        parcels_given : (parcel : Option T) → IsParcel m setup run rank parcel
            → parcels ++ given rank parcel ≡ (if run.core.epoch.target == run.core.steps then run.parcels ++ parcel_of m setup run rank else run.parcels)
        parcels_given (Some part) gives =
            ap (λ xs. xs ++ (rank, part) ∷ []) world.parcels_are ∙ ap (λ xs. run.parcels ++ xs) (sym gives.1)
            ∙ ap (λ b. if b then run.parcels ++ parcel_of m setup run rank else run.parcels) (sym (eq-eqb run.core.epoch.target run.core.steps gives.0))
        parcels_given None not_last =
            append-nil parcels ∙ world.parcels_are ∙ by_last (run.core.epoch.target == run.core.steps) refl
          where
            by_last : (b : Bool) → (run.core.epoch.target == run.core.steps) ≡ b → run.parcels ≡ (if b then run.parcels ++ parcel_of m setup run rank else run.parcels)
            by_last true last = absurd (not_last (eqb-true run.core.epoch.target run.core.steps last))
            by_last false _ = refl

    pub world_died : (before : List (ℕ × T)) → is_due (core_after m setup noted.events) rank ≡ true → later.events ≡ noted.events ++ Die rank ∷ []
        → core_later ≡ next core (Die rank) false
        → before ≡ (if is_arrived (stage core rank) then filter (λ parcel. not (parcel.0 == rank)) parcels else parcels)
        → parcels_later ≡ parcels_settled core_later rank before → later.room + 1 ≡ noted.room
        → IsWorld m setup core_later waiting_later later parcels_later restores_later
    world_died before due events_are core_is before_is parcels_is room =
        let needs : room_needed core_later + 1 ≤ room_needed core =
        subst (λ state. room_needed state + 1 ≤ room_needed core) (sym core_is) (need_died core rank false (ap (λ state. is_due state rank) world.core_is ∙ due)) in
        let forgets : State → List (ℕ × T) → List (ℕ × T) = λ state given_before. if is_arrived (stage state rank) then filter (λ parcel. not (parcel.0 == rank)) given_before else given_before in
        let goes : goes_on (stage run.core rank) ≡ true = (and_parts (goes_on (stage run.core rank)) _ due).0 in
        world_stopped (Die rank) rank before core_later waiting_later later parcels_later restores_later refl (dies_legal rank due)
        (ap is_stopped (stage_same run.core rank Dead (is_rank goes_on run.core rank refl goes))) (died_queues m setup run waiting rank world.queues)
        (before_is ∙ ap (λ state. forgets state parcels) world.core_is ∙ ap (forgets run.core) world.parcels_are) events_are core_is
        waiting_is parcels_is restores_is (room_left noted.room later.room (room_needed core) (room_needed core_later) room world.room needs)
