-- What a rank's own events make of its account.
use Rattle.std.proofs.Common.{◌≡◌, ℕ, zero, suc, ◌+◌, ◌-◌, ◌<◌, ◌≤◌, Bool, true, false, ◌||◌, not, List, [], ◌∷◌, ◌++◌, length, drop, arith, refl, sym, subst, ◌∙◌, ap, inl, inr}
use Rattle.std.specs.Prelude.{◌==◌, ◌⊎◌, Option, Some, None, Result, Ok, Err, IfOk, IsOk, OnOk, OnErr, is_some, slice_get, if◌then◌else◌, slice_set}
use Rattle.std.proofs.lemmas.Bool.{eq-eqb, eqb-true, lt-ltb, ne_eqb, and_parts, and_from, both_ways}
use Rattle.std.proofs.lemmas.List.{get_or-set_same, nil_from_length}
use Rattle.std.proofs.lemmas.Option.{same_Some}
use Rattle.bf_program.specs.declared.epoch.Epoch.{Epoch}
use Rattle.bf_program.specs.Meanings.{Meanings, Regions}
use Rattle.bf_program.specs.Laws.{Laws}
use Rattle.bf_program.specs.Points.{IsSending}
use Rattle.bf_core.specs.declared.event.Event.{Event}
use Rattle.bf_core.specs.declared.event.Event.TheVariants.{Send, Recv, Arrive, Leave, Die}
use Rattle.bf_core.specs.declared.event.How.{How}
use Rattle.bf_core.specs.declared.event.How.TheVariants.{Done, Broken, Memory}
use Rattle.bf_core.specs.declared.outcome.Outcome.{Outcome}
use Rattle.bf_core.specs.declared.place.Place.{Place}
use Rattle.bf_core.specs.declared.place.Place.TheVariants.{Rounds, Past}
use Rattle.bf_core.specs.declared.standing.Stage.{Stage}
use Rattle.bf_core.specs.declared.standing.Stage.TheVariants.{Running, Arrived, Leaving, Ended, Dead, Gone}
use Rattle.bf_core.specs.Stages.{is_running, is_leaving, is_arrived, goes_on}
use Rattle.bf_core.specs.Places.{next_send, next_receive, is_past, round_of}
use Rattle.bf_core.specs.States.{stage, queue, is_due, is_active, has_dead_member, is_short_of_memory}
use Rattle.bf_core.specs.Legal.{actor, waits, is_empty_from, IsOffered}
use Rattle.std.specs.List.{list_any}
use Rattle.bf_core.specs.Next.{with_stage, happened}
use Rattle.bf_core.proofs.SoundLemmas.{moved_stage, in_list, leaving_stage}
use Rattle.bf_core.proofs.StageLemmas.{is_rank}
use Rattle.bf_world.specs.Course.{local_at, peers_at, message_at, place_with, place_from, first_place, after_send, after_receive}
use Rattle.bf_world.specs.Runs.{Run, place, will_be_filled, run_happened, run_after, is_journal}
use Rattle.bf_world.specs.Worlds.{SendsNext, ReceivesNext, IsParcel, ArrivesAs, core_after, message_after, place_after}
use Rattle.bf_world.specs.declared.answers.Arrival.TheVariants as arrivals
use Rattle.bf_world.specs.Queues.{Waiting, messages}
use Rattle.bf_world.specs.Messages.{AreQueuesOf}
use Rattle.bf_world.proofs.LeaveLemmas.{none_leaves}
use Rattle.bf_world.proofs.WaitingLemmas.{queue_length}
use Rattle.bf_world.proofs.LawfulLemmas.{IsLawful, after_lawful}
use Rattle.bf_world.proofs.PlaceLemmas.{IsPlaced, receives_at}
use Rattle.bf_world.proofs.MessageLemmas.{has_next}
use Rattle.bf_world.proofs.RunLemmas.{run_more}
use Rattle.bf_world.proofs.WorldLemmas.{just_same}
use Rattle.bf_rank.specs.declared.stand.Stand.{Stand}
use Rattle.bf_rank.specs.declared.stand.Stand.TheVariants as stands
use Rattle.bf_rank.specs.declared.stand.Turn.{Turn}
use Rattle.bf_rank.specs.declared.stand.Turn.TheVariants as turns
use Rattle.bf_rank.specs.declared.stand.Step.{Step}
use Rattle.bf_rank.specs.declared.stand.Step.TheVariants as steps
use Rattle.bf_rank.specs.Ranks.{RankView, Sight, sight, IsLocalAt, local_from, HasFinished, HasLocal, WillBegin, Agrees, IsAt, IsTurn, IsOfferedSome, TookTurn}
use Rattle.bf_rank.specs.Steps.{holding, viewed, local_kept, kept, turn_to, MayStep, HasMoved, HasStepped, TakesNext, ComesTo, Begins, HasPassed, IsBeginning, Gives}
use Rattle.bf_rank.proofs.AgreeLemmas.{agrees_settled}
use Rattle.bf_rank.proofs.DecidedLemmas.{any_last, arrival_more}
use Rattle.bf_rank.proofs.ArriveLemmas.{done_filled, done_parcel, arrives_done, arrives_with_parcel, waiting_offers_nothing, arrived_offers_nothing}
use Rattle.bf_rank.proofs.TurnLemmas.{MaySend, may_send}

not_zero : (n : ℕ) → 0 < n → (n == 0) ≡ false
not_zero n some = by_test (n == 0) refl
  where
    by_test : (b : Bool) → (n == 0) ≡ b → (n == 0) ≡ false
    by_test true zeros = absurd (let e : n ≡ 0 = eqb-true n 0 zeros in omega (arith, e, some))
    by_test false test = test

-- a world's queues are those of its setup
pub queues_of_setup : {S L M T R : Type 0} (m : Meanings S L M T R) (seen setup : S) (journal : List Event) (waiting : Waiting M) → seen ≡ setup
    → AreQueuesOf m seen (run_after m seen journal) waiting → AreQueuesOf m setup (run_after m setup journal) waiting
queues_of_setup {S = S} m seen setup journal waiting same queues = let P : S → Type 0 = λ s. AreQueuesOf m s (run_after m s journal) waiting in subst P same queues

-- a world's journal is one of its setup
pub of_setup : {S L M T R : Type 0} (m : Meanings S L M T R) (seen setup : S) (journal : List Event) → seen ≡ setup → is_journal m seen journal ≡ true
    → is_journal m setup journal ≡ true
of_setup {S = S} m seen setup journal same legal = let P : S → Type 0 = λ s. is_journal m s journal ≡ true in subst P same legal

-- one event more of a rank, that a turn may add; it has made all its turns then, once it drops what it doesn't keep, and is past its
-- opening
pub record HasTurned {S L M T R : Type 0} (m : Meanings S L M T R) (good : S → Epoch → ℕ → List L → Type 0) (setup : S) (old new : List Event) (view : RankView L) : Type 0 where
  pub event : Event
  pub more : new ≡ old ++ event ∷ []
  pub turn : IsTurn m good setup old view.rank event
  pub opened : view.stand ≡ stands.Opening → ⊥
  pub at : IsAt m good setup new (kept view)

pub turned : {S L M T R : Type 0} (m : Meanings S L M T R) (good : S → Epoch → ℕ → List L → Type 0) (setup : S) (old new : List Event) (view : RankView L)
    → HasMoved m good setup old new view → HasTurned m good setup old new view
turned m good setup old new view moved = record {
  event = moved.event;
  more = moved.more;
  turn = record { its = moved.offered.its; offered = inl moved.offered };
  opened = moved.opened;
  at = moved.at;
}

module _ {S L M T R B U : Type 0} (m : Meanings S L M T R) (regions : Regions S L M T R B U) (good : S → Epoch → ℕ → List L → Type 0) (setup : S)
    (laws : Laws m regions good setup) (journal : List Event) (legal : is_journal m setup journal ≡ true) where
  abbrev run : Run L T
  run = run_after m setup journal

  pub lawful : IsLawful m good setup laws.goods laws.stores (run_after m setup journal)
  lawful = after_lawful m good setup laws.goods laws.stores laws.limits journal legal

  -- what a rank's local is at a place rests on the epoch and its start alone
  same_here : (at : Place) (local : L) (seen now : Sight L) (rank : ℕ) → now.epoch ≡ seen.epoch → now.start ≡ seen.start
      → IsLocalAt m good setup seen rank at local → IsLocalAt m good setup now rank at local
  same_here (Rounds round sent received peers) local seen now rank epochs starts here = record {
    first = here.first;
    its = ap (λ e. local_at m setup e now.start rank round) epochs ∙ ap (λ s. local_at m setup seen.epoch s rank round) starts ∙ here.its;
    here = here.here
        ∙ ap (λ e. local_from m good setup (record seen { epoch = e }) rank (Rounds round sent received peers) here.first) (sym epochs)
        ∙ ap (λ s. local_from m good setup (record seen { epoch = now.epoch; start = s }) rank (Rounds round sent received peers) here.first) (sym starts);
  }
  same_here Past local seen now rank epochs starts here = record {
    first = here.first;
    its = ap (λ e. local_at m setup e now.start rank (m.rounds setup e)) epochs ∙ ap (λ s. local_at m setup seen.epoch s rank (m.rounds setup seen.epoch)) starts ∙ here.its;
    here = here.here;
  }

  -- who has come to a place is past its opening
  comes_past : (seen : Sight L) (rank : ℕ) (to : Place) (local : L) (stand : Stand) → ComesTo m good setup seen rank to local stand → stand ≡ stands.Opening → ⊥
  comes_past seen rank to local (stands.Placed at) comes is = absurd (cc)
  comes_past seen rank to local stands.Failed comes is = absurd (cc)
  comes_past seen rank to local stands.Opening comes is = comes
  comes_past seen rank to local stands.Arrived comes is = comes
  comes_past seen rank to local stands.Ended comes is = comes

  -- a rank that stands at a place, and may step
  pub record AtPlace (rank : ℕ) (epoch : Epoch) (at : Place) (local : L) : Type 0 where
    pub ranked : rank < m.ranks setup
    pub runs : stage (run_after m setup journal).core rank ≡ Running
    pub active : is_active (run_after m setup journal).core rank ≡ true
    pub same : epoch ≡ (run_after m setup journal).core.epoch
    pub at_is : place (run_after m setup journal) rank ≡ at
    pub here : IsLocalAt m good setup (sight (run_after m setup journal) rank) rank at local
    pub placed : IsPlaced m setup (run_after m setup journal).core.epoch (run_after m setup journal).start rank at

  pub at_place : (rank : ℕ) (epoch : Epoch) (at : Place) (local : L) → MayStep m good setup journal (holding rank local epoch (stands.Placed at)) → AtPlace rank epoch at local
  at_place rank epoch at local may =
      let agrees : Agrees m good setup (sight run rank) (holding rank local epoch (stands.Placed at)) (stands.Placed at) = may.at.agrees in
      let P : L → Type 0 = IsLocalAt m good setup (sight run rank) rank at in
      let Q : Place → Type 0 = IsPlaced m setup run.core.epoch run.start rank in
      record {
        ranked = may.at.within;
        runs = agrees.0;
        active = and_from _ _ (ap is_running agrees.0) (ap not may.undue);
        same = agrees.1.0;
        at_is = agrees.1.1.0;
        here = subst P (sym (same_Some _ _ agrees.1.1.1.1.0)) agrees.1.1.1.1.1;
        placed = subst Q agrees.1.1.0 (lawful.steady.placed rank);
      }

  pub at_rounds : (rank : ℕ) (epoch : Epoch) (at to : Place) (local : L) → MayStep m good setup journal (holding rank local epoch (stands.Placed at)) → at ≡ to
      → AtPlace rank epoch to local
  at_rounds rank epoch at to local may is =
      let P : Place → Type 0 = λ p. AtPlace rank epoch p local in
      subst P is (at_place rank epoch at local may)

  -- a rank in its rounds that doesn't receive next sends next
  pub sends_some : (rank : ℕ) (epoch : Epoch) (round sent received : ℕ) (peers : List ℕ) (local : L) → AtPlace rank epoch (Rounds round sent received peers) local
      → next_receive (Rounds round sent received peers) ≡ None → slice_get peers sent ≡ None → ⊥
  sends_some rank epoch round sent received peers local stands_at receives sends =
      elim (has_next m setup run.core.epoch run.start rank (Rounds round sent received peers) stands_at.placed) [
        | inl past ↦ let e : false ≡ true = past in absurd (cc)
        | inr other ↦ elim other [
          | inl some ↦ let e : false ≡ true = ap is_some (sym sends) ∙ some in absurd (cc)
          | inr some ↦ let e : false ≡ true = ap is_some (sym receives) ∙ some in absurd (cc)
        ]
      ]

  -- what agrees with a rank's own event before any decision agrees after it
  moved_at : (new : List Event) (event : Event) (view : RankView L) → view.rank < m.ranks setup → new ≡ journal ++ event ∷ [] → actor event ≡ view.rank
      → is_leaving (stage (run_happened m setup run event).core view.rank) ≡ false
      → Agrees m good setup (sight (run_happened m setup run event) view.rank) (kept view) view.stand → IsAt m good setup new (kept view)
  moved_at new event view ranked more its stays agrees = record {
    within = ranked;
    agrees = let P : Run L T → Type 0 = λ r. Agrees m good setup (sight r view.rank) (kept view) view.stand in
        subst P (sym (ap (run_after m setup) more ∙ run_more m setup journal event))
        (agrees_settled m good setup laws.saves run event (kept view) view.stand ranked lawful.steady.good_start agrees);
    decided = arrival_more m good setup journal new event (kept view) view.stand more agrees (λ leaving. absurd (both_ways _ stays leaving));
    acted = λ _.
        let P : List Event → Type 0 = λ j. list_any (λ e. actor e == view.rank) j ≡ true in
        subst P (sym more) (any_last (λ e. actor e == view.rank) journal event (eq-eqb (actor event) view.rank its));
  }

  -- a rank's own event
  pub has_moved : (new : List Event) (event : Event) (view : RankView L) → view.rank < m.ranks setup → new ≡ journal ++ event ∷ []
      → IsOffered (run_after m setup journal).core view.rank (place (run_after m setup journal) view.rank) event → (view.stand ≡ stands.Opening → ⊥)
      → Agrees m good setup (sight (run_happened m setup run event) view.rank) (kept view) view.stand
      → HasMoved m good setup journal new view
  has_moved new event view ranked more offered opened agrees = record {
    event = event;
    more = more;
    offered = offered;
    opened = opened;
    at = moved_at new event view ranked more offered.its
        (let P : ℕ → Type 0 = λ r. is_leaving (stage (run_happened m setup run event).core r) ≡ false in
        subst P offered.its (none_leaves run.core event (place run view.rank) (will_be_filled m setup run (actor event)) offered.legal))
        agrees;
  }

  still_runs : (rank : ℕ) → stage run.core rank ≡ Running → stage (with_stage run.core rank (stage run.core rank)) rank ≡ Running
  still_runs rank runs = (moved_stage run.core rank (stage run.core rank) (in_list run.core rank runs)).its ∙ runs

  within_places : (rank : ℕ) → rank < length run.core.standings → rank < length run.places
  within_places rank within =
      let size : length run.places ≡ m.ranks setup = lawful.steady.size in
      let ranks : run.core.ranks ≡ m.ranks setup = lawful.steady.ranks in
      let all : length run.core.standings ≡ run.core.ranks = lawful.sound.size in
      omega (arith, within, size, ranks, all)

  place_now : (rank : ℕ) (to : Place) → stage run.core rank ≡ Running → place (record run { places = slice_set run.places rank to }) rank ≡ to
  place_now rank to runs = get_or-set_same run.places rank to Past (within_places rank (in_list run.core rank runs))

  module _ (rank : ℕ) (epoch : Epoch) (round sent received : ℕ) (peers : List ℕ) (to : ℕ) (local : L)
      (stands_at : AtPlace rank epoch (Rounds round sent received peers) local) (next : slice_get peers sent ≡ Some to) where
    sending : MaySend m good setup laws.goods laws.peers (sight run rank) lawful.steady.good_start rank round sent received peers to local
    sending = may_send m good setup laws.goods laws.peers (sight run rank) lawful.steady.good_start rank round sent received peers to local stands_at.placed stands_at.here next

    pub may_out : IsSending m good setup epoch round to local
    may_out = let P : Epoch → Type 0 = λ e. IsSending m good setup e round to local in subst P (sym stands_at.same) sending.point

    pub sends_next : (msg : M) → msg ≡ (m.out setup local epoch round to).1 → SendsNext m setup journal rank to msg
    sends_next msg is = record {
      active = stands_at.active;
      next = ap next_send stands_at.at_is ∙ next;
      its = ap (λ r. message_at m setup run.core.epoch run.start rank to r) (ap round_of stands_at.at_is) ∙ sending.its
          ∙ ap Some (sym (is ∙ ap (λ e. (m.out setup local e round to).1) stands_at.same));
    }

    pub has_sent : (new : List Event) (blocks sum : ℕ) (after : L) → new ≡ journal ++ Send rank to blocks sum ∷ [] → after ≡ (m.out setup local epoch round to).0
        → HasMoved m good setup journal new (holding rank after epoch (stands.Placed (Rounds round (sent + 1) received peers)))
    has_sent new blocks sum after more out =
        let P : L → Type 0 = IsLocalAt m good setup (sight run rank) rank (Rounds round (sent + 1) received peers) in
        let here : IsLocalAt m good setup (sight run rank) rank (Rounds round (sent + 1) received peers) after =
        subst P (sym (out ∙ ap (λ e. (m.out setup local e round to).0) stands_at.same)) sending.next in
        has_moved new (Send rank to blocks sum) (holding rank after epoch (stands.Placed (Rounds round (sent + 1) received peers))) stands_at.ranked more
        (record {
          its = refl;
          legal = and_from _ _ stands_at.active (just_same _ to (ap next_send stands_at.at_is ∙ next));
          memory = λ is. absurd (cc);
        }) (λ is. absurd (cc)) (
          still_runs rank stands_at.runs,
          (
            stands_at.same,
            (
              place_now rank (after_send (place run rank)) stands_at.runs ∙ ap after_send stands_at.at_is,
              (after, (refl, record { first = here.first; its = here.its; here = here.here })),
            ),
          ),
        )

  -- who arrives broken has its local as it was
  arrives_agree : (rank : ℕ) (epoch : Epoch) (at : Place) (local : L) → AtPlace rank epoch at local → (how : How) → how ≡ Broken
      → Agrees m good setup (sight (run_happened m setup run (Arrive rank how)) rank) (holding rank local epoch stands.Arrived) stands.Arrived
  arrives_agree rank epoch at local stands_at Done is = absurd (cc)
  arrives_agree rank epoch at local stands_at Memory is = absurd (cc)
  arrives_agree rank epoch at local stands_at Broken is =
      let P : Stage → Type 0 = HasLocal m good setup (sight (run_happened m setup run (Arrive rank Broken)) rank) (holding rank local epoch stands.Arrived) in
      subst P (sym (moved_stage run.core rank (Arrived Broken false) (in_list run.core rank stands_at.runs)).its) (
        local,
        (
          refl,
          (let Q : Place → Type 0 = λ p. IsLocalAt m good setup (sight (run_happened m setup run (Arrive rank Broken)) rank) rank p local in
              subst Q (sym stands_at.at_is)
              (same_here at local (sight run rank) (sight (run_happened m setup run (Arrive rank Broken)) rank) rank refl refl stands_at.here)),
        ),
      )

  pub receives_next : (rank peer : ℕ) (epoch : Epoch) (at : Place) (local : L) → AtPlace rank epoch at local → next_receive at ≡ Some peer → ReceivesNext m setup journal rank peer
  receives_next rank peer epoch at local stands_at next = record { active = stands_at.active; next = ap next_receive stands_at.at_is ∙ next }

  pub takes_next : (rank peer : ℕ) (epoch : Epoch) (at : Place) (local : L) (msg : M) → AtPlace rank epoch at local → next_receive at ≡ Some peer
      → message_after m setup journal peer rank (round_of (place_after m setup journal rank)) ≡ Some msg
      → TakesNext m good setup (sight (run_after m setup journal) rank) epoch rank at peer msg local
  takes_next rank peer epoch Past local msg stands_at next its = absurd (cc)
  takes_next rank peer epoch (Rounds round sent received peers) local msg stands_at next its =
      let from : (length peers ≤ sent) × (slice_get peers received ≡ Some peer) = receives_at m setup run.core.epoch run.start round sent received peer peers next in
      let sends : sent ≤ length peers = stands_at.placed.sends in
      record {
        same = stands_at.same;
        is_good = lawful.steady.good_start;
        within = stands_at.placed.within;
        peers_are = stands_at.placed.peers_are;
        all_sent = omega (arith, from.0, sends);
        next = from.1;
        here = stands_at.here;
        its = ap (λ r. message_at m setup run.core.epoch run.start peer rank r) (sym (ap round_of stands_at.at_is)) ∙ its;
      }

  module _ (waiting : Waiting M) (queues : AreQueuesOf m setup (run_after m setup journal) waiting) (rank peer : ℕ) (epoch : Epoch) (at : Place) (local : L)
      (stands_at : AtPlace rank epoch at local) (next : next_receive at ≡ Some peer) where
    queue_is : queue run.core peer rank ≡ length (messages waiting peer rank)
    queue_is = queue_length run.core waiting peer rank queues.counts (queues.ranks ∙ sym lawful.steady.ranks)

    waits_as : waits run.core rank (place run rank) ≡ (queue run.core peer rank == 0)
    waits_as = ap (is_empty_from run.core rank) (ap next_receive stands_at.at_is ∙ next)

    moves_on : (after : L) (stand : Stand) → ComesTo m good setup (sight run rank) rank (after_receive m setup run.core.epoch run.start rank at) after stand
        → Agrees m good setup (sight (run_happened m setup run (Recv rank peer)) rank) (kept (holding rank after epoch stand)) stand
    moves_on after (stands.Placed to) comes = (
      still_runs rank stands_at.runs,
      (
        stands_at.same,
        (
          place_now rank (after_receive m setup run.core.epoch run.start rank (place run rank)) stands_at.runs
              ∙ ap (after_receive m setup run.core.epoch run.start rank) stands_at.at_is ∙ comes.0,
          (after, (refl, same_here to after (sight run rank) (sight (run_happened m setup run (Recv rank peer)) rank) rank refl refl comes.1)),
        ),
      ),
    )
    moves_on after stands.Failed comes = (still_runs rank stands_at.runs, refl)
    moves_on after stands.Opening comes = absurd comes
    moves_on after stands.Arrived comes = absurd comes
    moves_on after stands.Ended comes = absurd comes

    pub has_received : (new : List Event) (msg : M) (after : L) (stand : Stand) → messages waiting peer rank ≡ msg ∷ drop 1 (messages waiting peer rank)
        → new ≡ journal ++ Recv rank peer ∷ [] → ComesTo m good setup (sight (run_after m setup journal) rank) rank
        (after_receive m setup (run_after m setup journal).core.epoch (run_after m setup journal).start rank at) after stand
        → HasMoved m good setup journal new (holding rank after epoch stand)
    has_received new msg after stand front more comes =
        let some : (queue run.core peer rank == 0) ≡ false =
        not_zero _ (let e : queue run.core peer rank ≡ length (msg ∷ drop 1 (messages waiting peer rank)) = queue_is ∙ ap length front in omega (arith, e)) in
        has_moved new (Recv rank peer) (holding rank after epoch stand) stands_at.ranked more
        (record {
          its = refl;
          legal = and_from _ _ (and_from _ _ stands_at.active (just_same _ peer (ap next_receive stands_at.at_is ∙ next))) (ap not (waits_as ∙ some));
          memory = λ is. absurd (cc);
        })
        (λ is. comes_past (sight run rank) rank (after_receive m setup run.core.epoch run.start rank at) after stand comes is)
        (moves_on after stand comes)

    empty : messages waiting peer rank ≡ [] → queue run.core peer rank ≡ 0
    empty none = queue_is ∙ ap length none

    pub has_broken : (new : List Event) → messages waiting peer rank ≡ [] → has_dead_member (core_after m setup journal) ≡ true
        → new ≡ journal ++ Arrive rank Broken ∷ [] → HasMoved m good setup journal new (holding rank local epoch stands.Arrived)
    has_broken new none dead more =
        has_moved new (Arrive rank Broken) (holding rank local epoch stands.Arrived) stands_at.ranked more
        (record {
          its = refl;
          legal = and_from _ _ (and_from _ _ stands_at.active (waits_as ∙ eq-eqb (queue run.core peer rank) 0 (empty none))) dead;
          memory = λ is. absurd (cc);
        })
        (λ is. absurd (cc))
        (arrives_agree rank epoch at local stands_at Broken refl)

    pub nothing_offered : messages waiting peer rank ≡ [] → has_dead_member (core_after m setup journal) ≡ false → is_short_of_memory (core_after m setup journal) ≡ false
        → is_due (run_after m setup journal).core rank ≡ false
        → (event : Event) → IsOffered (run_after m setup journal).core rank (place (run_after m setup journal) rank) event → ⊥
    nothing_offered none alive fits undue =
        waiting_offers_nothing run.core rank peer (place run rank) undue stands_at.runs (ap next_receive stands_at.at_is ∙ next) (empty none) alive fits

  module _ (rank : ℕ) (epoch : Epoch) (local after : L) (parcel : Option T) (filled : Bool)
      (stands_at : AtPlace rank epoch Past local) (gives : Gives m good setup epoch local after parcel) where
    last_when : epoch.target ≡ m.steps setup → run.core.epoch.target ≡ run.core.steps
    last_when ends = sym (ap (λ e. e.target) stands_at.same) ∙ ends ∙ sym lawful.steady.steps

    when_last : run.core.epoch.target ≡ run.core.steps → epoch.target ≡ m.steps setup
    when_last ends = ap (λ e. e.target) stands_at.same ∙ ends ∙ lawful.steady.steps

    is_parcel : (given : Option T) → Gives m good setup epoch local after given → IsParcel m setup run rank given
    is_parcel (Some part) has = (last_when has.0, done_parcel m good setup run rank local stands_at.here ∙ ap (λ p. (rank, p) ∷ []) (sym has.1.0))
    is_parcel None has = λ ends. has.0 (when_last ends)

    pub arrives_as : filled ≡ m.filled local → ArrivesAs m setup journal rank (arrivals.Done filled parcel)
    arrives_as is = (ap is_past stands_at.at_is, (is ∙ sym (done_filled m good setup run rank local stands_at.here), is_parcel parcel gives))

    here_done : IsLocalAt m good setup (sight (run_happened m setup run (Arrive rank Done)) rank) rank Past local
    here_done = same_here Past local (sight run rank) (sight (run_happened m setup run (Arrive rank Done)) rank) rank refl refl stands_at.here

    abbrev seen_done : Sight L
    seen_done = sight (run_happened m setup run (Arrive rank Done)) rank

    arrived_done : (given : Option T) → Gives m good setup epoch local after given → HasFinished m good setup seen_done rank after
    arrived_done (Some part) has =
        let P : L → Type 0 = HasFinished m good setup seen_done rank in
        subst P (sym has.1.1) (arrives_with_parcel m good setup seen_done rank local here_done (eq-eqb run.core.epoch.target run.core.steps (last_when has.0)))
    arrived_done None has =
        let P : L → Type 0 = HasFinished m good setup seen_done rank in
        subst P (sym has.1) (arrives_done m good setup seen_done rank local here_done (ne_eqb run.core.epoch.target run.core.steps (λ ends. has.0 (when_last ends))))

    pub has_done : (new : List Event) → new ≡ journal ++ Arrive rank Done ∷ [] → HasMoved m good setup journal new (holding rank after epoch stands.Arrived)
    has_done new more =
        has_moved new (Arrive rank Done) (holding rank after epoch stands.Arrived) stands_at.ranked more
        (record {
          its = refl;
          legal = and_from _ _ stands_at.active (ap is_past stands_at.at_is);
          memory = λ is. absurd (cc);
        })
        (λ is. absurd (cc))
        (let P : Stage → Type 0 = HasLocal m good setup (sight (run_happened m setup run (Arrive rank Done)) rank) (holding rank after epoch stands.Arrived) in
        subst P (sym (moved_stage run.core rank (Arrived Done (will_be_filled m setup run rank)) (in_list run.core rank stands_at.runs)).its)
        (after, (refl, arrived_done parcel gives)))

  -- an arrival for want of memory
  pub has_failed : (new : List Event) (view : RankView L) → view.rank < m.ranks setup → stage (run_after m setup journal).core view.rank ≡ Running → view.stand ≡ stands.Arrived → view.local ≡ None
      → new ≡ journal ++ Arrive view.rank Memory ∷ [] → HasTurned m good setup journal new view
  has_failed new view ranked runs stand_is none more = record {
    event = Arrive view.rank Memory;
    more = more;
    turn = record { its = refl; offered = inr refl };
    opened = λ opens. absurd (let e : stands.Arrived ≡ stands.Opening = sym stand_is ∙ opens in cc);
    at = moved_at new (Arrive view.rank Memory) view ranked more refl
        (ap is_leaving (moved_stage run.core view.rank (Arrived Memory false) (in_list run.core view.rank runs)).its)
        (let Q : Stand → Type 0 = Agrees m good setup (sight (run_happened m setup run (Arrive view.rank Memory)) view.rank) (kept view) in
        subst Q (sym stand_is)
        (let P : Stage → Type 0 = HasLocal m good setup (sight (run_happened m setup run (Arrive view.rank Memory)) view.rank) (kept view) in
        subst P (sym (moved_stage run.core view.rank (Arrived Memory false) (in_list run.core view.rank runs)).its) (ap (local_kept view.local) stand_is ∙ none)));
  }

  -- a death
  pub has_died : (new : List Event) (view : RankView L) → view.rank < m.ranks setup → is_due (run_after m setup journal).core view.rank ≡ true → view.stand ≡ stands.Ended
      → new ≡ journal ++ Die view.rank ∷ [] → HasTurned m good setup journal new view
  has_died new view ranked due stand_is more =
      turned m good setup journal new view
      (has_moved new (Die view.rank) view ranked more
      (record { its = refl; legal = due; memory = λ is. absurd (cc) })
      (λ opens. absurd (let e : stands.Ended ≡ stands.Opening = sym stand_is ∙ opens in cc))
      (let Q : Stand → Type 0 = Agrees m good setup (sight (run_happened m setup run (Die view.rank)) view.rank) (kept view) in
      subst Q (sym stand_is)
      (ap goes_on (moved_stage run.core view.rank Dead (is_rank goes_on run.core view.rank refl (and_parts (goes_on (stage run.core view.rank)) _ due).0)).its)))

  -- the first place of an epoch
  pub opens : (rank : ℕ) (epoch : Epoch) (local : L) → MayStep m good setup journal (holding rank local epoch stands.Opening)
      → Begins m good setup (sight (run_after m setup journal) rank) epoch rank 0 local
  opens rank epoch local may =
      let agrees : Agrees m good setup (sight run rank) (holding rank local epoch stands.Opening) stands.Opening = may.at.agrees in
      record {
        same = agrees.1.0;
        is_good = lawful.steady.good_start;
        within = omega arith;
        its = agrees.1.1.1.1.1 ∙ sym agrees.1.1.1.1.0;
      }

  first_at : (seen : Sight L) (rank : ℕ) (at : Place) (local : L) → HasPassed m good setup seen rank 0 at local → first_place m setup seen.epoch seen.start rank ≡ at
  first_at seen rank at local passed =
      let e : m.rounds setup seen.epoch ≡ m.rounds setup seen.epoch - 0 = omega arith in
      ap (λ n. place_from m setup seen.epoch seen.start rank n 0) e ∙ sym passed.at_is

  pub opened : (rank : ℕ) (epoch : Epoch) (local after : L) (at : Place) → MayStep m good setup journal (holding rank local epoch stands.Opening)
      → HasPassed m good setup (sight (run_after m setup journal) rank) rank 0 at after → MayStep m good setup journal (holding rank after epoch (stands.Placed at))
  opened rank epoch local after at may passed =
      let agrees : Agrees m good setup (sight run rank) (holding rank local epoch stands.Opening) stands.Opening = may.at.agrees in
      record {
        at = record {
          within = may.at.within;
          agrees = (agrees.0, (agrees.1.0, (agrees.1.1.0 ∙ first_at (sight run rank) rank at after passed, (after, (refl, passed.here)))));
          decided = λ leaving. absurd (both_ways _ (ap is_leaving agrees.0) leaving);
          acted = λ fails. absurd (cc);
        };
        undue = may.undue;
      }

  receives_later : (seen : Sight L) (rank left round : ℕ) → next_receive (place_from m setup seen.epoch seen.start rank left round) ≡ None
  unfolding place_from
  receives_later seen rank zero round = refl
  receives_later seen rank (suc left) round = by_peers (peers_at m setup seen.epoch seen.start rank round) (receives_later seen rank left (round + 1))
    where
      by_peers : (peers : List ℕ) → next_receive (place_from m setup seen.epoch seen.start rank left (round + 1)) ≡ None
          → next_receive (place_with round peers (place_from m setup seen.epoch seen.start rank left (round + 1))) ≡ None
      by_peers [] later = later
      by_peers (peer ∷ peers) later = ap (λ b. if b then None else slice_get (peer ∷ peers) 0) (lt-ltb 0 (length (peer ∷ peers)) (omega arith))

  pub opens_sending : (rank : ℕ) (at : Place) (local : L) → HasPassed m good setup (sight (run_after m setup journal) rank) rank 0 at local → next_receive at ≡ None
  opens_sending rank at local passed = ap next_receive passed.at_is ∙ receives_later (sight run rank) rank _ 0

  -- a rank that has arrived
  module _ (view : RankView L) (may : MayStep m good setup journal view) (arrived : view.stand ≡ stands.Arrived) where
    has_local : HasLocal m good setup (sight run view.rank) view (stage run.core view.rank)
    has_local = let P : Stand → Type 0 = Agrees m good setup (sight run view.rank) view in subst P arrived may.at.agrees

    pub may_leave : (is_arrived (stage (core_after m setup journal) view.rank) || is_leaving (stage (core_after m setup journal) view.rank)) ≡ true
    may_leave = by_stage (stage run.core view.rank) has_local
      where
        by_stage : (s : Stage) → HasLocal m good setup (sight run view.rank) view s → (is_arrived s || is_leaving s) ≡ true
        by_stage (Arrived how filled) has = refl
        by_stage Leaving has = refl
        by_stage Running has = absurd has
        by_stage Ended has = absurd has
        by_stage Dead has = absurd has
        by_stage Gone has = absurd has

    pub waits_for_decision : is_arrived (stage (core_after m setup journal) view.rank) ≡ true
        → (event : Event) → IsOffered (run_after m setup journal).core view.rank (place (run_after m setup journal) view.rank) event → ⊥
    waits_for_decision still = arrived_offers_nothing run.core view.rank (place run view.rank) may.undue still

    leaving_turn : is_leaving (stage run.core view.rank) ≡ true → IsOffered run.core view.rank (place run view.rank) (Leave view.rank)
    leaving_turn leaving = record { its = refl; legal = and_from _ _ leaving (ap not may.undue); memory = λ is. absurd (cc) }

    stage_left : is_leaving (stage run.core view.rank) ≡ true
        → stage (happened run.core (Leave view.rank) (will_be_filled m setup run view.rank)) view.rank ≡ (if is_some run.core.outcome then Ended else Running)
    stage_left leaving = (moved_stage run.core view.rank (if is_some run.core.outcome then Ended else Running) (is_rank is_leaving run.core view.rank refl leaving)).its

    pub has_ended : (new : List Event) (outcome : Outcome) (after : RankView L) → after.rank ≡ view.rank → after.stand ≡ stands.Ended
        → is_leaving (stage (core_after m setup journal) view.rank) ≡ true → (core_after m setup journal).outcome ≡ Some outcome
        → new ≡ journal ++ Leave view.rank ∷ [] → HasMoved m good setup journal new after
    has_ended new outcome after same ends leaving over more =
        let P : ℕ → Type 0 = λ r. HasMoved m good setup journal new (record { rank = r; local = after.local; epoch = after.epoch; stand = after.stand }) in
        subst P (sym same)
        (let Q : Stand → Type 0 = λ s. HasMoved m good setup journal new (record { rank = view.rank; local = after.local; epoch = after.epoch; stand = s }) in
        subst Q (sym ends)
        (has_moved new (Leave view.rank) (record { rank = view.rank; local = after.local; epoch = after.epoch; stand = stands.Ended }) may.at.within more (leaving_turn leaving) (λ is. absurd (cc))
        (ap goes_on (stage_left leaving ∙ ap (λ o. if is_some o then Ended else Running) over))))

    pub begins : is_leaving (stage (core_after m setup journal) view.rank) ≡ true → (core_after m setup journal).outcome ≡ None
        → (place (run_after m setup journal) view.rank ≡ first_place m setup (core_after m setup journal).epoch (run_after m setup journal).start view.rank)
        × ((local : L) × ((view.local ≡ Some local) × WillBegin m good setup (core_after m setup journal).epoch.restored (sight (run_after m setup journal) view.rank) view.rank local))
    begins leaving none =
        let P : Stage → Type 0 = HasLocal m good setup (sight run view.rank) view in
        let has : HasLocal m good setup (sight run view.rank) view Leaving = subst P (leaving_stage run.core view.rank leaving) has_local in
        has.0 none

    pub is_beginning : (epoch : Epoch) (local : L) → is_leaving (stage (core_after m setup journal) view.rank) ≡ true → (core_after m setup journal).outcome ≡ None
        → epoch ≡ (core_after m setup journal).epoch → view.local ≡ Some local
        → IsBeginning m good setup (sight (run_after m setup journal) view.rank) epoch view.rank local
    is_beginning epoch local leaving none same its = record {
      same = same;
      is_good = lawful.steady.good_start;
      will = let P : L → Type 0 = WillBegin m good setup run.core.epoch.restored (sight run view.rank) view.rank in
          subst P (same_Some _ _ (sym (begins leaving none).1.1.0 ∙ its)) (begins leaving none).1.1.1;
    }

    pub has_some : is_leaving (stage (core_after m setup journal) view.rank) ≡ true → (core_after m setup journal).outcome ≡ None → view.local ≡ None → ⊥
    has_some leaving none lacks = let e : Some (begins leaving none).1.0 ≡ None = sym (begins leaving none).1.1.0 ∙ lacks in cc

    pub has_begun : (new : List Event) (epoch : Epoch) (after : L) (stand : Stand) → is_leaving (stage (core_after m setup journal) view.rank) ≡ true
        → (core_after m setup journal).outcome ≡ None → epoch ≡ (core_after m setup journal).epoch → new ≡ journal ++ Leave view.rank ∷ []
        → ComesTo m good setup (sight (run_after m setup journal) view.rank) view.rank
        (first_place m setup (core_after m setup journal).epoch (run_after m setup journal).start view.rank) after stand
        → HasMoved m good setup journal new (holding view.rank after epoch stand)
    has_begun new epoch after stand leaving none same more comes =
        has_moved new (Leave view.rank) (holding view.rank after epoch stand) may.at.within more (leaving_turn leaving)
        (λ is. comes_past (sight run view.rank) view.rank (first_place m setup run.core.epoch run.start view.rank) after stand comes is) (by_stand stand comes)
      where
        runs : stage (happened run.core (Leave view.rank) (will_be_filled m setup run view.rank)) view.rank ≡ Running
        runs = stage_left leaving ∙ ap (λ o. if is_some o then Ended else Running) none

        by_stand : (to : Stand) → ComesTo m good setup (sight run view.rank) view.rank (first_place m setup run.core.epoch run.start view.rank) after to
            → Agrees m good setup (sight (run_happened m setup run (Leave view.rank)) view.rank) (kept (holding view.rank after epoch to)) to
        by_stand (stands.Placed to) comes = (
          runs,
          (
            same,
            (
              (begins leaving none).0 ∙ comes.0,
              (after, (refl, same_here to after (sight run view.rank) (sight (run_happened m setup run (Leave view.rank)) view.rank) view.rank refl refl comes.1)),
            ),
          ),
        )
        by_stand stands.Failed comes = (runs, refl)
        by_stand stands.Opening comes = absurd comes
        by_stand stands.Arrived comes = absurd comes
        by_stand stands.Ended comes = absurd comes

  -- a step that may lack memory
  pub stepped : {E : Type 0} (new : List Event) (rank : ℕ) (epoch : Epoch) (before : RankView L) (after : L) (stand : Stand) (r : Result Stand E) (made : Step)
      → before.rank ≡ rank → stage (core_after m setup journal) rank ≡ Running → IsOfferedSome m good setup journal rank
      → IfOk r (λ at. HasMoved m good setup journal new (holding rank after epoch at)) → OnErr r (new ≡ journal)
      → IfOk r (λ at. made ≡ steps.Moved at) → OnErr r (made ≡ steps.Short)
      → HasStepped m good setup journal new before (holding rank after epoch stand) made
  stepped new rank epoch before after stand (Ok at) made same runs some moved _ is _ =
      subst (HasStepped m good setup journal new before (holding rank after epoch stand)) (sym is) moved
  stepped new rank epoch before after stand (Err e) made same runs some _ stays _ is =
      let P : ℕ → Type 0 = IsOfferedSome m good setup journal in
      subst (HasStepped m good setup journal new before (holding rank after epoch stand)) (sym is) (stays, (ap (stage run.core) same ∙ runs, inr (subst P (sym same) some)))

  -- a rank that may step is offered an event, but for one that waits beside members who all live and have memory
  pub offered_some : (waiting : Waiting M) → AreQueuesOf m setup (run_after m setup journal) waiting → (rank : ℕ) (epoch : Epoch) (at : Place) (local : L) → AtPlace rank epoch at local
      → ((peer : ℕ) → next_receive at ≡ Some peer → messages waiting peer rank ≡ [] → has_dead_member (core_after m setup journal) ≡ false
      → is_short_of_memory (core_after m setup journal) ≡ true) → IsOfferedSome m good setup journal rank
  offered_some waiting queues rank epoch at local stands_at short =
      elim (has_next m setup run.core.epoch run.start rank at stands_at.placed) [
        | inl past ↦ (Arrive rank Done, record { its = refl; legal = and_from _ _ stands_at.active (ap is_past stands_at.at_is ∙ past); memory = λ is. absurd (cc) })
        | inr other ↦ elim other [
          | inl sends ↦ by_send (next_send at) refl sends
          | inr receives ↦ by_receive (next_receive at) refl receives
        ]
      ]
    where
      by_send : (o : Option ℕ) → next_send at ≡ o → is_some o ≡ true → IsOfferedSome m good setup journal rank
      by_send (Some to) next _ =
          (Send rank to 0 0, record { its = refl; legal = and_from _ _ stands_at.active (just_same _ to (ap next_send stands_at.at_is ∙ next)); memory = λ is. absurd (cc) })
      by_send None next some = absurd (cc)

      here : (peer : ℕ) → next_receive at ≡ Some peer → waits run.core rank (place run rank) ≡ (queue run.core peer rank == 0)
      here peer next = ap (is_empty_from run.core rank) (ap next_receive stands_at.at_is ∙ next)

      by_dead : (peer : ℕ) → next_receive at ≡ Some peer → (queue run.core peer rank == 0) ≡ true → messages waiting peer rank ≡ [] → (b : Bool) → has_dead_member run.core ≡ b
          → IsOfferedSome m good setup journal rank
      by_dead peer next empty none true dead =
          (Arrive rank Broken, record { its = refl; legal = and_from _ _ (and_from _ _ stands_at.active (here peer next ∙ empty)) dead; memory = λ is. absurd (cc) })
      by_dead peer next empty none false alive = (
        Arrive rank Memory,
        record {
          its = refl;
          legal = stands_at.active;
          memory = λ _. and_from _ _ (and_from _ _ (here peer next ∙ empty) (ap not alive)) (short peer next none alive);
        },
      )

      by_queue : (peer : ℕ) → next_receive at ≡ Some peer → (b : Bool) → (queue run.core peer rank == 0) ≡ b → IsOfferedSome m good setup journal rank
      by_queue peer next true empty = by_dead peer next empty
          (nil_from_length (messages waiting peer rank)
          (sym (queue_length run.core waiting peer rank queues.counts (queues.ranks ∙ sym lawful.steady.ranks)) ∙ eqb-true (queue run.core peer rank) 0 empty))
          (has_dead_member run.core) refl
      by_queue peer next false some = (
        Recv rank peer,
        record {
          its = refl;
          legal = and_from _ _ (and_from _ _ stands_at.active (just_same _ peer (ap next_receive stands_at.at_is ∙ next))) (ap not (here peer next ∙ some));
          memory = λ is. absurd (cc);
        },
      )

      by_receive : (o : Option ℕ) → next_receive at ≡ o → is_some o ≡ true → IsOfferedSome m good setup journal rank
      by_receive (Some peer) next _ = by_queue peer next (queue run.core peer rank == 0) refl
      by_receive None next some = absurd (cc)

  -- so is a rank that receives next, where it is not one that waits so
  pub receives_some : (waiting : Waiting M) → AreQueuesOf m setup (run_after m setup journal) waiting → (rank peer : ℕ) (epoch : Epoch) (at : Place) (local : L) → AtPlace rank epoch at local
      → next_receive at ≡ Some peer
      → (messages waiting peer rank ≡ [] → has_dead_member (core_after m setup journal) ≡ false → is_short_of_memory (core_after m setup journal) ≡ true)
      → IsOfferedSome m good setup journal rank
  receives_some waiting queues rank peer epoch at local stands_at next short =
      let P : ℕ → Type 0 = λ p. messages waiting p rank ≡ [] → has_dead_member (core_after m setup journal) ≡ false → is_short_of_memory (core_after m setup journal) ≡ true in
      offered_some waiting queues rank epoch at local stands_at (λ other receives. subst P (same_Some _ _ (sym next ∙ receives)) short)

  some_given : (rank : ℕ) (at : Place) → is_active run.core rank ≡ true → place run rank ≡ at
      → (is_past at ≡ true) ⊎ ((is_some (next_send at) ≡ true) ⊎ (is_some (next_receive at) ≡ true)) → next_receive at ≡ None → IsOfferedSome m good setup journal rank
  some_given rank at active at_is next none = elim next [
    | inl past ↦ (Arrive rank Done, record { its = refl; legal = and_from _ _ active (ap is_past at_is ∙ past); memory = λ is. absurd (cc) })
    | inr other ↦ elim other [
      | inl sends ↦ by_send (next_send at) refl sends
      | inr receives ↦ absurd (let e : true ≡ false = sym receives ∙ ap is_some none in cc)
    ]
  ]
    where
      by_send : (o : Option ℕ) → next_send at ≡ o → is_some o ≡ true → IsOfferedSome m good setup journal rank
      by_send (Some to) sends _ =
          (Send rank to 0 0, record { its = refl; legal = and_from _ _ active (just_same _ to (ap next_send at_is ∙ sends)); memory = λ is. absurd (cc) })
      by_send None sends some = absurd (cc)

  -- a rank that does not receive next is offered an event
  pub gives_some : (rank : ℕ) (epoch : Epoch) (at : Place) (local : L) → AtPlace rank epoch at local → next_receive at ≡ None → IsOfferedSome m good setup journal rank
  gives_some rank epoch at local stands_at none = some_given rank at stands_at.active stands_at.at_is (has_next m setup run.core.epoch run.start rank at stands_at.placed) none

  -- so is one before its first event
  pub opens_some : (rank : ℕ) (epoch : Epoch) (local : L) → MayStep m good setup journal (holding rank local epoch stands.Opening) → IsOfferedSome m good setup journal rank
  opens_some rank epoch local may =
      let agrees : Agrees m good setup (sight run rank) (holding rank local epoch stands.Opening) stands.Opening = may.at.agrees in
      some_given rank (place run rank) (and_from _ _ (ap is_running agrees.0) (ap not may.undue)) refl
      (has_next m setup run.core.epoch run.start rank (place run rank) (lawful.steady.placed rank))
      (ap next_receive agrees.1.1.0 ∙ receives_later (sight run rank) rank (m.rounds setup run.core.epoch) 0)

goes_where : {S L M T R : Type 0} (m : Meanings S L M T R) (good : S → Epoch → ℕ → List L → Type 0) (setup : S) (seen : Sight L) (view : RankView L) (stand : Stand)
    → Agrees m good setup seen view stand → (stand ≡ stands.Ended → ⊥) → goes_on seen.stage ≡ true
goes_where m good setup seen view stands.Opening agrees lasts = ap goes_on agrees.0
goes_where m good setup seen view (stands.Placed at) agrees lasts = ap goes_on agrees.0
goes_where m good setup seen view stands.Failed agrees lasts = ap goes_on agrees.0
goes_where m good setup seen view stands.Ended agrees lasts = absurd (lasts refl)
goes_where m good setup seen view stands.Arrived agrees lasts = by_stage seen.stage agrees
  where
    by_stage : (s : Stage) → HasLocal m good setup seen view s → goes_on s ≡ true
    by_stage (Arrived how filled) has = refl
    by_stage Leaving has = refl
    by_stage Running has = absurd has
    by_stage Ended has = absurd has
    by_stage Dead has = absurd has
    by_stage Gone has = absurd has

module _ {S L M T R : Type 0} (m : Meanings S L M T R) (good : S → Epoch → ℕ → List L → Type 0) (setup : S) (old new : List Event) where
  pub turn_taken : (view : RankView L) (stand : Stand) → HasTurned m good setup old new (viewed view.rank view.local view.epoch stand)
      → TookTurn m good setup old new view.rank (turn_to stand)
  turn_taken view stands.Opening moved = (goes_where m good setup (sight (run_after m setup new) view.rank) (kept (viewed view.rank view.local view.epoch stands.Opening)) stands.Opening moved.at.agrees (λ is. absurd (cc)), (moved.event, (moved.more, moved.turn)))
  turn_taken view (stands.Placed at) moved = (goes_where m good setup (sight (run_after m setup new) view.rank) (kept (viewed view.rank view.local view.epoch (stands.Placed at))) (stands.Placed at) moved.at.agrees (λ is. absurd (cc)), (moved.event, (moved.more, moved.turn)))
  turn_taken view stands.Arrived moved = (goes_where m good setup (sight (run_after m setup new) view.rank) (kept (viewed view.rank view.local view.epoch stands.Arrived)) stands.Arrived moved.at.agrees (λ is. absurd (cc)), (moved.event, (moved.more, moved.turn)))
  turn_taken view stands.Failed moved = (goes_where m good setup (sight (run_after m setup new) view.rank) (kept (viewed view.rank view.local view.epoch stands.Failed)) stands.Failed moved.at.agrees (λ is. absurd (cc)), (moved.event, (moved.more, moved.turn)))
  turn_taken view stands.Ended moved = (moved.at.agrees, inr (moved.event, (moved.more, moved.turn)))

  -- a turn that added an event
  pub record IsMade (rank : ℕ) (after : RankView L) (result : Turn) : Type 0 where
    pub its : after.rank ≡ rank
    pub at : IsAt m good setup new after
    pub turn : TookTurn m good setup old new rank result
    pub moves : result ≡ turns.NotYet → ⊥
    pub opened : after.stand ≡ stands.Opening → ⊥

  never_waits : (stand : Stand) → turn_to stand ≡ turns.NotYet → ⊥
  never_waits stands.Opening is = absurd (cc)
  never_waits (stands.Placed at) is = absurd (cc)
  never_waits stands.Arrived is = absurd (cc)
  never_waits stands.Failed is = absurd (cc)
  never_waits stands.Ended is = absurd (cc)

  pub turn_made : (rank whose : ℕ) (local : Option L) (epoch : Epoch) (stand : Stand) (after : RankView L) (result : Turn)
      → HasTurned m good setup old new (viewed rank local epoch stand) → after ≡ viewed rank (local_kept local stand) epoch stand → result ≡ turn_to stand → rank ≡ whose
      → IsMade whose after result
  turn_made rank whose local epoch stand after result moved is made same =
      let P : ℕ → Type 0 = λ r. IsMade r after result in
      subst P same
      (let Q : Turn → Type 0 = IsMade rank after in
      subst Q (sym made)
      (record {
        its = ap (λ v. v.rank) is;
        at = subst (IsAt m good setup new) (sym is) moved.at;
        turn = turn_taken (viewed rank local epoch stand) stand moved;
        moves = never_waits stand;
        opened = λ opens. moved.opened (sym (ap (λ v. v.stand) is) ∙ opens);
      }))

pub ok_of : {X E : Type 0} (r : Result X E) {P : Type 0} → IsOk r → OnOk r P → P
ok_of (Ok x) is holds = holds
ok_of (Err e) fails holds = absurd (cc)

pub not_ok : {X E : Type 0} (r : Result X E) (e : E) → r ≡ Err e → IsOk r → ⊥
not_ok (Ok x) e is ok = absurd (cc)
not_ok (Err f) e is ok = absurd (cc)
