-- What waits in a lawful run: the queues hold its messages after each legal event, as many as its state says.
use Rattle.std.proofs.Common.{◌≡◌, ℕ, zero, suc, ◌+◌, ◌-◌, ◌*◌, ◌<◌, Bool, true, false, cond, ◌&&◌, ◌||◌, not, List, [], ◌∷◌, ◌++◌, map, filter, drop, length, replicate, get_or, slice_set, arith, refl, sym, ◌∙◌, ap}
use Rattle.std.specs.Prelude.{◌==◌, Option, Some, None, if◌then◌else◌, slice_get}
use Rattle.std.specs.List.{range_with_len}
use Rattle.std.proofs.lemmas.Bool.{eqb-true, eq-eqb, and_parts}
use Rattle.std.proofs.lemmas.List.{length_push, length-drop, length-replicate, length-map, nil_from_length}
use Rattle.bf_core.proofs.LegalLemmas.{just_some}
use Rattle.bf_buddy.specs.Members.{is_member}
use Rattle.bf_program.specs.declared.epoch.Epoch.{Epoch}
use Rattle.bf_program.specs.Meanings.{Meanings}
use Rattle.bf_program.specs.Laws.{KeepsGood, KeepsPeers}
use Rattle.bf_core.specs.declared.decision.Decision.{Decision}
use Rattle.bf_core.specs.declared.decision.Decision.TheVariants.{Lose, WantMemory, Commit, Restore}
use Rattle.bf_core.specs.declared.event.Event.TheVariants.{Send, Recv, Arrive, Leave, Die}
use Rattle.bf_core.specs.declared.event.How.{How}
use Rattle.bf_core.specs.declared.outcome.Outcome.{Outcome}
use Rattle.bf_core.specs.declared.outcome.Outcome.TheVariants as outcomes
use Rattle.bf_core.specs.declared.standing.Stage.TheVariants.{Running}
use Rattle.bf_core.specs.Stages.{is_gone}
use Rattle.bf_core.specs.Places.{is_just, next_send, next_receive, round_of}
use Rattle.bf_core.specs.Orders.{IsBehind}
use Rattle.bf_core.specs.States.{State, stage, queue, channel, is_active, opening}
use Rattle.bf_core.specs.Legal.{is_legal, is_empty_from}
use Rattle.bf_core.specs.Next.{dissolved, ended, committed, decided, is_ripe, decision}
use Rattle.bf_core.proofs.SoundLemmas.{IsSound, is_open, acting, in_list}
use Rattle.bf_world.specs.Course.{peers_at, message_at}
use Rattle.bf_world.specs.Messages.{HoldsMessages, AreQueuesOf}
use Rattle.bf_world.specs.Queues.{Waiting, messages, with_messages, no_messages, lengths, IsSquare}
use Rattle.bf_world.specs.Runs.{Run, place, begun, last_locals, opening_run, run_happened, run_decided, run_settled, next_run}
use Rattle.bf_world.proofs.LawfulLemmas.{IsSteady, decided_core}
use Rattle.bf_world.proofs.QueueLemmas.{still_square, lengths_after, lengths_of_none, length_at}
use Rattle.bf_world.proofs.PeerLemmas.{peer_is_other}
use Rattle.bf_world.proofs.MessageLemmas.{sends_to_peer, receives_from_peer}
use Rattle.bf_world.proofs.HoldLemmas.{begun_holds, arrived_holds, left_holds, died_holds, sent_holds, received_holds, front_waits, sender_behind}

-- the members of a filtered range are below its end
pub below_end : (p : ℕ → Bool) (k n y : ℕ) → is_member (filter p (range_with_len k n)) y ≡ true → y < k + n
below_end p k zero y member = absurd (cc)
below_end p k (suc n) y member = by_first (p k) member (λ later. below_end p (k + 1) n y later)
  where
    by_head : (b : Bool) → (k == y) ≡ b → (b || is_member (filter p (range_with_len (k + 1) n)) y) ≡ true
        → (is_member (filter p (range_with_len (k + 1) n)) y ≡ true → y < (k + 1) + n) → y < k + suc n
    by_head true same _ rest = omega (arith, eqb-true k y same)
    by_head false other later rest = omega (arith, rest later)

    by_first : (b : Bool) → is_member (cond b (k ∷ filter p (range_with_len (k + 1) n)) (filter p (range_with_len (k + 1) n))) y ≡ true
        → (is_member (filter p (range_with_len (k + 1) n)) y ≡ true → y < (k + 1) + n) → y < k + suc n
    by_first true is_in rest = by_head (k == y) refl is_in rest
    by_first false is_in rest = omega (arith, rest is_in)

-- a run in which a rank does its rounds goes on
pub goes_on_while : (state : State) (rank : ℕ) → IsSound state → stage state rank ≡ Running → state.outcome ≡ None
goes_on_while state rank sound runs = by_outcome state.outcome refl
  where
    by_outcome : (o : Option Outcome) → state.outcome ≡ o → o ≡ None
    by_outcome None none = refl
    by_outcome (Some outcome) ends =
        let both : true ≡ false = sym (ap is_open runs) ∙ sound.over outcome ends rank in absurd (cc)

-- a member is a rank, while the run goes on
pub member_below : (state : State) (rank : ℕ) → IsSound state → state.outcome ≡ None → is_member state.epoch.members rank ≡ true → rank < state.ranks
member_below state rank sound none member =
    let below : rank < 0 + state.ranks =
    below_end (λ r. not (is_gone (stage state r))) 0 state.ranks rank (sym (ap (λ xs. is_member xs rank) (sound.members none)) ∙ member) in
    omega (arith, below)

-- some message waits
some_first : {X : Type 0} (xs : List X) → (length xs ≡ 0 → ⊥) → (x : X) × (slice_get xs 0 ≡ Some x)
some_first [] some = absurd (some refl)
some_first (x ∷ xs) some = (x, refl)

-- the count of a queue, where all counts are known
pub queue_length : {X : Type 0} (state : State) (waiting : Waiting X) (from to : ℕ) → lengths waiting ≡ state.queues → waiting.ranks ≡ state.ranks
    → queue state from to ≡ length (messages waiting from to)
queue_length state waiting from to counts ranks =
    ap (λ xs. get_or xs (channel state.ranks from to) 0) (sym counts)
    ∙ ap (λ r. get_or (lengths waiting) (channel r from to) 0) (sym ranks)
    ∙ length_at waiting from to

-- the counts once another queue waits
counted : {X : Type 0} (state : State) (waiting : Waiting X) (from to count : ℕ) (others : List X) → lengths waiting ≡ state.queues → waiting.ranks ≡ state.ranks
    → length others ≡ count → lengths (with_messages waiting from to others) ≡ slice_set state.queues (channel state.ranks from to) count
counted state waiting from to count others counts ranks size =
    lengths_after waiting (with_messages waiting from to others) from to others refl
    ∙ ap (λ xs. slice_set xs (channel waiting.ranks from to) (length others)) counts
    ∙ ap (λ r. slice_set state.queues (channel r from to) (length others)) ranks
    ∙ ap (slice_set state.queues (channel state.ranks from to)) size

-- a decision empties the queues
pub decided_queues : (state : State) (made : Decision) → (decided state made).queues ≡ replicate (length state.queues) 0
unfolding decided dissolved
decided_queues state (Lose home buddy) = refl
decided_queues state WantMemory = refl
decided_queues state Commit = by_end (state.epoch.target == state.steps)
  where
    by_end : (b : Bool) → (if b then ended state outcomes.Finished else committed state).queues ≡ replicate (length state.queues) 0
    by_end true = refl
    by_end false = refl
decided_queues state Restore = refl

module _ {S L M T R : Type 0} (m : Meanings S L M T R) (setup : S) where
  -- two ranks between which a message goes, while the run does
  pub record GoBetween (run : Run L T) (rank peer : ℕ) : Type 0 where
    pub goes_on : run.core.outcome ≡ None
    pub its : rank < m.ranks setup
    pub other : peer < m.ranks setup

  none_square : (ranks : ℕ) → IsSquare {M = M} (no_messages ranks)
  none_square ranks = length-replicate (ranks * ranks) []

  pub opening_queues : AreQueuesOf m setup (opening_run m setup) (no_messages (m.ranks setup))
  unfolding opening_run opening
  opening_queues = record {
    ranks = refl;
    square = none_square (m.ranks setup);
    counts = lengths_of_none M (m.ranks setup);
    holds = λ _. begun_holds m setup _ _ _ (m.ranks setup) refl;
  }

  -- an event that moves no place, before any decision
  pub arrived_queues : (run : Run L T) (waiting : Waiting M) (rank : ℕ) (how : How) → AreQueuesOf m setup run waiting
      → AreQueuesOf m setup (run_happened m setup run (Arrive rank how)) waiting
  arrived_queues run waiting rank how its =
      record { ranks = its.ranks; square = its.square; counts = its.counts; holds = λ none. arrived_holds m setup run waiting rank how (its.holds none) }

  pub died_queues : (run : Run L T) (waiting : Waiting M) (rank : ℕ) → AreQueuesOf m setup run waiting
      → AreQueuesOf m setup (run_happened m setup run (Die rank)) waiting
  died_queues run waiting rank its =
      record { ranks = its.ranks; square = its.square; counts = its.counts; holds = λ none. died_holds m setup run waiting rank (its.holds none) }

  pub left_queues : (run : Run L T) (waiting : Waiting M) (rank : ℕ) → AreQueuesOf m setup run waiting
      → AreQueuesOf m setup (next_run m setup run (Leave rank)) waiting
  unfolding next_run
  left_queues run waiting rank its =
      record { ranks = its.ranks; square = its.square; counts = its.counts; holds = λ none. left_holds m setup run waiting rank (its.holds none) }

  -- after a decision nothing waits, and where the run goes on, each rank is at its first place
  decided_holds : (run : Run L T) (made : Decision) → (run_decided m setup run made).core.outcome ≡ None
      → HoldsMessages m setup (run_decided m setup run made) (no_messages (m.ranks setup))
  unfolding decided
  decided_holds run (Lose home buddy) none = absurd (cc)
  decided_holds run WantMemory none = absurd (cc)
  decided_holds run Commit none = by_end (run.core.epoch.target == run.core.steps) refl none
    where
      over : (b : Bool) → b ≡ true → (if b then ended run.core outcomes.Finished else committed run.core).outcome ≡ None → ⊥
      over true _ none = absurd (cc)
      over false goes_on none = absurd (cc)

      by_end : (b : Bool) → (run.core.epoch.target == run.core.steps) ≡ b
          → (if b then record run { core = if run.core.epoch.target == run.core.steps then ended run.core outcomes.Finished else committed run.core }
          else begun m setup (if run.core.epoch.target == run.core.steps then ended run.core outcomes.Finished else committed run.core)
          (map m.keep (last_locals m setup run)) run.parcels).core.outcome ≡ None
          → HoldsMessages m setup
          (if b then record run { core = if run.core.epoch.target == run.core.steps then ended run.core outcomes.Finished else committed run.core }
          else begun m setup (if run.core.epoch.target == run.core.steps then ended run.core outcomes.Finished else committed run.core)
          (map m.keep (last_locals m setup run)) run.parcels)
          (no_messages (m.ranks setup))
      by_end true at_end none = absurd (over (run.core.epoch.target == run.core.steps) at_end none)
      by_end false on none = begun_holds m setup _ _ _ (m.ranks setup) refl
  decided_holds run Restore none = begun_holds m setup _ _ _ (m.ranks setup) refl

  pub decided_queues_of : (run : Run L T) (waiting : Waiting M) (made : Decision) → AreQueuesOf m setup run waiting
      → AreQueuesOf m setup (run_decided m setup run made) (no_messages (m.ranks setup))
  decided_queues_of run waiting made its =
      let every : length run.core.queues ≡ m.ranks setup * m.ranks setup =
      ap length (sym its.counts) ∙ length-map waiting.queues length ∙ its.square ∙ ap (λ n. n * n) its.ranks in
      record {
        ranks = refl;
        square = none_square (m.ranks setup);
        counts = lengths_of_none M (m.ranks setup) ∙ ap (λ n. replicate n 0) (sym every)
            ∙ sym (ap (λ c. c.queues) (decided_core m setup run made) ∙ decided_queues run.core made);
        holds = decided_holds run made;
      }

  -- after an event that may bring a decision: nothing waits once there is one
  pub settled_queues : (run : Run L T) (waiting : Waiting M) → AreQueuesOf m setup run waiting
      → AreQueuesOf m setup (run_settled m setup run) (if is_ripe run.core then no_messages (m.ranks setup) else waiting)
  settled_queues run waiting its = by_ripe (is_ripe run.core)
    where
      by_ripe : (b : Bool) → AreQueuesOf m setup (if b then run_decided m setup run (decision run.core) else run) (if b then no_messages (m.ranks setup) else waiting)
      by_ripe true = decided_queues_of run waiting (decision run.core) its
      by_ripe false = its

module _ {S L M T R : Type 0} (m : Meanings S L M T R) (good : S → Epoch → ℕ → List L → Type 0) (setup : S)
    (goods : KeepsGood m good setup) (peers : KeepsPeers m good setup) where
  pub between : (run : Run L T) (rank peer : ℕ) → IsSteady m good setup run → IsSound run.core → stage run.core rank ≡ Running
      → (round_of (place run rank) < m.rounds setup run.core.epoch) × (is_member (peers_at m setup run.core.epoch run.start rank (round_of (place run rank))) peer ≡ true)
      → GoBetween m setup run rank peer
  between run rank peer steady sound runs among =
      let goes_on : run.core.outcome ≡ None = goes_on_while run.core rank sound runs in
      let within : rank < length run.core.standings = in_list run.core rank runs in
      let member : is_member run.core.epoch.members peer ≡ true =
      (peer_is_other m good setup goods peers run.core.epoch run.start steady.good_start rank peer (round_of (place run rank)) among.0 among.1).0 in
      record {
        goes_on = goes_on;
        its = omega (arith, within, sound.size, steady.ranks);
        other = omega (arith, member_below run.core peer sound goes_on member, steady.ranks);
      }

  -- who sends legally, and to whom
  pub sends_legally : (run : Run L T) (rank to blocks sum : ℕ) → IsSteady m good setup run → IsSound run.core → is_legal run.core (Send rank to blocks sum) (place run rank) ≡ true
      → (next_send (place run rank) ≡ Some to) × GoBetween m setup run rank to
  sends_legally run rank to blocks sum steady sound legal =
      let runs : stage run.core rank ≡ Running = acting run.core rank (and_parts (is_active run.core rank) _ legal).0 in
      let sends : next_send (place run rank) ≡ Some to = just_some _ to (and_parts (is_active run.core rank) _ legal).1 in
      (sends, between run rank to steady sound runs (sends_to_peer m setup run.core.epoch run.start rank to (place run rank) (steady.placed rank) sends))

  -- who receives legally, and from whom
  pub receives_legally : (run : Run L T) (rank peer : ℕ) → IsSteady m good setup run → IsSound run.core → is_legal run.core (Recv rank peer) (place run rank) ≡ true
      → (next_receive (place run rank) ≡ Some peer) × GoBetween m setup run rank peer
  receives_legally run rank peer steady sound legal =
      let active : is_active run.core rank && is_just (next_receive (place run rank)) peer ≡ true =
      (and_parts (is_active run.core rank && is_just (next_receive (place run rank)) peer) _ legal).0 in
      let runs : stage run.core rank ≡ Running = acting run.core rank (and_parts (is_active run.core rank) _ active).0 in
      let receives : next_receive (place run rank) ≡ Some peer = just_some _ peer (and_parts (is_active run.core rank) _ active).1 in
      (receives, between run rank peer steady sound runs (receives_from_peer m setup run.core.epoch run.start rank peer (place run rank) (steady.placed rank) receives))

  -- a message is sent
  pub send_queues : (run : Run L T) (waiting : Waiting M) (rank to blocks sum : ℕ) (msg : M) → IsSteady m good setup run → IsSound run.core → AreQueuesOf m setup run waiting
      → is_legal run.core (Send rank to blocks sum) (place run rank) ≡ true
      → message_at m setup run.core.epoch run.start rank to (round_of (place run rank)) ≡ Some msg
      → AreQueuesOf m setup (next_run m setup run (Send rank to blocks sum)) (with_messages waiting rank to (messages waiting rank to ++ msg ∷ []))
  unfolding next_run
  send_queues run waiting rank to blocks sum msg steady sound its legal is =
      let does : (next_send (place run rank) ≡ Some to) × GoBetween m setup run rank to = sends_legally run rank to blocks sum steady sound legal in
      let ranks : waiting.ranks ≡ run.core.ranks = its.ranks ∙ sym steady.ranks in
      let queue : List M = messages waiting rank to in
      record {
        ranks = its.ranks;
        square = still_square waiting (with_messages waiting rank to (queue ++ msg ∷ [])) rank to (queue ++ msg ∷ []) its.square refl;
        counts = counted run.core waiting rank to _ (queue ++ msg ∷ []) its.counts ranks
            (length_push queue msg ∙ ap (λ n. n + 1) (sym (queue_length run.core waiting rank to its.counts ranks)));
        holds = λ none. sent_holds m good setup goods peers run waiting steady.good_start steady.placed (its.holds does.1.goes_on) rank to blocks sum msg does.0
            (omega (arith, does.1.its, steady.size)) (omega (arith, does.1.its, its.ranks)) (omega (arith, does.1.other, its.ranks)) its.square is;
      }

  -- the message that is received waits at the front, and is that of the lockstep
  pub next_waits : (run : Run L T) (waiting : Waiting M) (rank peer : ℕ) → IsSteady m good setup run → IsSound run.core → AreQueuesOf m setup run waiting
      → is_legal run.core (Recv rank peer) (place run rank) ≡ true
      → (msg : M) × (slice_get (messages waiting peer rank) 0 ≡ Some msg)
      × (message_at m setup run.core.epoch run.start peer rank (round_of (place run rank)) ≡ Some msg)
  next_waits run waiting rank peer steady sound its legal =
      let does : (next_receive (place run rank) ≡ Some peer) × GoBetween m setup run rank peer = receives_legally run rank peer steady sound legal in
      let some : not (queue run.core peer rank == 0) ≡ true =
      sym (ap (λ o. not (is_empty_from run.core rank o)) does.0)
      ∙ (and_parts (is_active run.core rank && is_just (next_receive (place run rank)) peer) _ legal).1 in
      let first : (msg : M) × (slice_get (messages waiting peer rank) 0 ≡ Some msg) =
      some_first (messages waiting peer rank) (λ none. not_empty (queue run.core peer rank) some
      (queue_length run.core waiting peer rank its.counts (its.ranks ∙ sym steady.ranks) ∙ none)) in (
        first.0,
        first.1,
        front_waits m good setup goods peers run waiting steady.good_start steady.placed (its.holds does.1.goes_on) rank peer first.0 does.0
            (omega (arith, does.1.its, its.ranks)) (omega (arith, does.1.other, its.ranks)) first.1,
      )
    where
      not_empty : (n : ℕ) → not (n == 0) ≡ true → n ≡ 0 → ⊥
      not_empty n some none = let both : false ≡ true = sym (ap not (eq-eqb n 0 none)) ∙ some in absurd (cc)

  -- a message is received
  pub receive_queues : (run : Run L T) (waiting : Waiting M) (rank peer : ℕ) → IsSteady m good setup run → IsSound run.core → AreQueuesOf m setup run waiting
      → is_legal run.core (Recv rank peer) (place run rank) ≡ true
      → AreQueuesOf m setup (next_run m setup run (Recv rank peer)) (with_messages waiting peer rank (drop 1 (messages waiting peer rank)))
  unfolding next_run
  receive_queues run waiting rank peer steady sound its legal =
      let does : (next_receive (place run rank) ≡ Some peer) × GoBetween m setup run rank peer = receives_legally run rank peer steady sound legal in
      let first : (msg : M) × (slice_get (messages waiting peer rank) 0 ≡ Some msg)
      × (message_at m setup run.core.epoch run.start peer rank (round_of (place run rank)) ≡ Some msg) =
      next_waits run waiting rank peer steady sound its legal in
      let ranks : waiting.ranks ≡ run.core.ranks = its.ranks ∙ sym steady.ranks in
      let rest : List M = drop 1 (messages waiting peer rank) in
      record {
        ranks = its.ranks;
        square = still_square waiting (with_messages waiting peer rank rest) peer rank rest its.square refl;
        counts = counted run.core waiting peer rank _ rest its.counts ranks
            (length-drop 1 (messages waiting peer rank) ∙ ap (λ n. n - 1) (sym (queue_length run.core waiting peer rank its.counts ranks)));
        holds = λ none. received_holds m good setup goods peers run waiting steady.good_start steady.placed (its.holds does.1.goes_on) rank peer first.0 does.0
            (omega (arith, does.1.its, steady.size)) (omega (arith, does.1.its, its.ranks)) (omega (arith, does.1.other, its.ranks)) its.square first.1;
      }

  -- a sender of whose message nothing waits is behind
  pub behind_where_none : (run : Run L T) (waiting : Waiting M) (rank peer : ℕ) → IsSteady m good setup run → IsSound run.core → AreQueuesOf m setup run waiting
      → stage run.core rank ≡ Running → next_receive (place run rank) ≡ Some peer → queue run.core peer rank ≡ 0
      → IsBehind (place run peer) (place run rank)
  behind_where_none run waiting rank peer steady sound its runs receives none =
      let does : GoBetween m setup run rank peer =
      between run rank peer steady sound runs
      (receives_from_peer m setup run.core.epoch run.start rank peer (place run rank) (steady.placed rank) receives) in
      sender_behind m good setup goods peers run waiting steady.good_start steady.placed (its.holds does.goes_on) rank peer receives
      (omega (arith, does.its, its.ranks)) (omega (arith, does.other, its.ranks))
      (nil_from_length (messages waiting peer rank) (sym (queue_length run.core waiting peer rank its.counts (its.ranks ∙ sym steady.ranks)) ∙ none))
