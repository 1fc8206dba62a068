-- Where nobody wants memory, turns lead to one journal alone.
use Rattle.std.proofs.Common.{◌≡◌, ℕ, zero, suc, ◌<◌, Bool, true, false, ◌&&◌, ◌||◌, not, List, [], ◌∷◌, ◌++◌, length, refl, sym, subst, ◌∙◌, ap, inl, inr, cond, arith}
use Rattle.std.specs.Prelude.{◌==◌, ◌⊎◌, IsTrue, nat_lt, Option, Some, None, slice_get}
use Rattle.std.specs.List.{range_with_len, list_any}
use Rattle.std.proofs.lemmas.Bool.{and_parts, eqb-true, eq-eqb, lt-ltb, not-true, both_ways, or_parts}
use Rattle.bf_program.specs.declared.epoch.Epoch.{Epoch}
use Rattle.bf_program.specs.Meanings.{Meanings}
use Rattle.bf_core.specs.declared.event.Event.{Event}
use Rattle.bf_core.specs.declared.event.Event.TheVariants.{Send, Recv, Arrive, Leave, Die}
use Rattle.bf_core.specs.declared.event.How.TheVariants.{Done, Broken, Memory}
use Rattle.bf_core.specs.declared.place.Place.{Place}
use Rattle.bf_core.specs.declared.place.Place.TheVariants.{Rounds, Past}
use Rattle.bf_core.specs.declared.standing.Stage.{Stage}
use Rattle.bf_core.specs.declared.standing.Stage.TheVariants as stages
use Rattle.bf_core.specs.Stages.{is_running, is_leaving, goes_on}
use Rattle.bf_core.specs.Places.{is_just, next_send, next_receive, is_past, round_of}
use Rattle.bf_core.specs.States.{State, stage, is_due, is_active, is_finished}
use Rattle.bf_core.specs.Legal.{actor, is_memory, is_legal, waits, is_empty_from, IsOffered}
use Rattle.bf_core.proofs.StageLemmas.{nobody_any}
use Rattle.bf_core.proofs.LawLemmas.{nothing_legal}
use Rattle.bf_world.specs.Course.{message_at}
use Rattle.bf_world.specs.Runs.{Run, place, is_measured, tells_truly, is_legal_in, run_after, is_journal}
use Rattle.bf_rank.specs.Ranks.{IsTurn}
use Rattle.bf_drive.specs.Drives.{Progress, Turns, Passes, beginning, IsDriven, NobodyWantsMemory}
use Rattle.bf_drive.proofs.TookLemmas.{Grew, grew}
use Rattle.bf_drive.proofs.StayLemmas.{first_legal, last_legal}

-- ---- which steps a rank may have at once

-- a rank that is to die does nothing else
not_due : (state : State) (rank : ℕ) → is_active state rank ≡ true → is_due state rank ≡ true → ⊥
not_due state rank active due = by_due (is_due state rank) (and_parts (is_running (stage state rank)) (not (is_due state rank)) active).1 due
  where
    by_due : (b : Bool) → not b ≡ true → b ≡ true → ⊥
    by_due true fails holds = absurd (cc)
    by_due false fails holds = absurd (cc)

not_leaving_due : (state : State) (rank : ℕ) → (is_leaving (stage state rank) && not (is_due state rank)) ≡ true → is_due state rank ≡ true → ⊥
not_leaving_due state rank leaving due = by_due (is_due state rank) (and_parts (is_leaving (stage state rank)) (not (is_due state rank)) leaving).1 due
  where
    by_due : (b : Bool) → not b ≡ true → b ≡ true → ⊥
    by_due true fails holds = absurd (cc)
    by_due false fails holds = absurd (cc)

not_active_leaving : (state : State) (rank : ℕ) → is_active state rank ≡ true → (is_leaving (stage state rank) && not (is_due state rank)) ≡ true → ⊥
not_active_leaving state rank active leaving =
    by_stage (stage state rank) (and_parts (is_running (stage state rank)) _ active).0 (and_parts (is_leaving (stage state rank)) _ leaving).0
  where
    by_stage : (s : Stage) → is_running s ≡ true → is_leaving s ≡ true → ⊥
    by_stage stages.Running runs leaves = absurd (cc)
    by_stage (stages.Arrived how filled) runs leaves = absurd (cc)
    by_stage stages.Leaving runs leaves = absurd (cc)
    by_stage stages.Ended runs leaves = absurd (cc)
    by_stage stages.Dead runs leaves = absurd (cc)
    by_stage stages.Gone runs leaves = absurd (cc)

-- a place asks for a send, a receive, or an arrival
beyond : (xs : List ℕ) (i n : ℕ) → slice_get xs i ≡ Some n → i < length xs
beyond [] i n e = absurd (cc)
beyond (x ∷ xs) zero n e = omega arith
beyond (x ∷ xs) (suc i) n e = omega (arith, beyond xs i n e)

no_send_and_receive : (at : Place) (to peer : ℕ) → is_just (next_send at) to ≡ true → is_just (next_receive at) peer ≡ true → ⊥
no_send_and_receive Past to peer sends receives = absurd (cc)
no_send_and_receive (Rounds round sent received peers) to peer sends receives = by_next (slice_get peers sent) refl sends
  where
    quiet : nat_lt sent (length peers) ≡ true → ⊥
    quiet early = let none : is_just (cond true None (slice_get peers received)) peer ≡ true = subst (λ b. is_just (cond b None (slice_get peers received)) peer ≡ true) early receives in absurd (cc)

    by_next : (o : Option ℕ) → slice_get peers sent ≡ o → is_just o to ≡ true → ⊥
    by_next None is there = absurd (cc)
    by_next (Some n) is there = quiet (lt-ltb sent (length peers) (beyond peers sent n is))

no_send_and_past : (at : Place) (to : ℕ) → is_just (next_send at) to ≡ true → is_past at ≡ true → ⊥
no_send_and_past Past to sends past = absurd (cc)
no_send_and_past (Rounds round sent received peers) to sends past = absurd (cc)

no_receive_and_past : (at : Place) (peer : ℕ) → is_just (next_receive at) peer ≡ true → is_past at ≡ true → ⊥
no_receive_and_past Past peer receives past = absurd (cc)
no_receive_and_past (Rounds round sent received peers) peer receives past = absurd (cc)

-- who waits receives next
waits_for : (state : State) (rank : ℕ) (at : Place) → waits state rank at ≡ true → (peer : ℕ) × (is_just (next_receive at) peer ≡ true)
waits_for state rank at waiting = by_next (next_receive at) waiting
  where
    by_next : (o : Option ℕ) → is_empty_from state rank o ≡ true → (peer : ℕ) × (is_just o peer ≡ true)
    by_next None none = absurd (cc)
    by_next (Some peer) is = (peer, eq-eqb peer peer refl)

just_one : (o : Option ℕ) (a b : ℕ) → is_just o a ≡ true → is_just o b ≡ true → a ≡ b
just_one None a b is_a is_b = absurd (cc)
just_one (Some n) a b is_a is_b = sym (eqb-true n a is_a) ∙ eqb-true n b is_b

not_both : (b : Bool) → b ≡ true → not b ≡ true → ⊥
not_both true holds fails = absurd (cc)
not_both false holds fails = absurd (cc)

-- what a legal event tells of its rank
sends : (state : State) (rank to blocks sum : ℕ) (at : Place) → is_legal state (Send rank to blocks sum) at ≡ true
    → (is_active state rank ≡ true) × (is_just (next_send at) to ≡ true)
sends state rank to blocks sum at legal = and_parts (is_active state rank) _ legal

receives : (state : State) (rank peer : ℕ) (at : Place) → is_legal state (Recv rank peer) at ≡ true
    → (is_active state rank ≡ true) × ((is_just (next_receive at) peer ≡ true) × (not (waits state rank at) ≡ true))
receives state rank peer at legal =
    let parts = and_parts (is_active state rank && is_just (next_receive at) peer) _ legal in
    let first = and_parts (is_active state rank) _ parts.0 in (first.0, (first.1, parts.1))

breaks : (state : State) (rank : ℕ) (at : Place) → is_legal state (Arrive rank Broken) at ≡ true
    → (is_active state rank ≡ true) × (((peer : ℕ) × (is_just (next_receive at) peer ≡ true)) × (waits state rank at ≡ true))
breaks state rank at legal =
    let parts = and_parts (is_active state rank) _ (and_parts (is_active state rank && waits state rank at) _ legal).0 in
    (parts.0, (waits_for state rank at parts.1, parts.1))

arrives : (state : State) (rank : ℕ) (at : Place) → is_legal state (Arrive rank Done) at ≡ true → (is_active state rank ≡ true) × (is_past at ≡ true)
arrives state rank at legal = and_parts (is_active state rank) _ legal

module _ {S L M T R : Type 0} (m : Meanings S L M T R) (setup : S) where
  -- a message has one measure
  one_measure : (o : Option M) (blocks sum others more : ℕ) → is_measured m setup o blocks sum ≡ true → is_measured m setup o others more ≡ true → (blocks ≡ others) × (sum ≡ more)
  one_measure None blocks sum others more one other = absurd (cc)
  one_measure (Some msg) blocks sum others more one other =
      let a = and_parts ((m.measure msg).blocks == blocks) _ one in
      let b = and_parts ((m.measure msg).blocks == others) _ other in
      (sym (eqb-true _ _ a.0) ∙ eqb-true _ _ b.0, sym (eqb-true _ _ a.1) ∙ eqb-true _ _ b.1)

  -- events of one rank, each of them legal and none an arrival for want of memory, are one
  same_sends : (run : Run L T) (rank to blocks sum next others more : ℕ)
      → is_legal run.core (Send rank to blocks sum) (place run rank) ≡ true → is_legal run.core (Send rank next others more) (place run rank) ≡ true
      → tells_truly m setup run (Send rank to blocks sum) ≡ true → tells_truly m setup run (Send rank next others more) ≡ true
      → Send rank to blocks sum ≡ Send rank next others more
  same_sends run rank to blocks sum next others more first second tells truly =
      let to_is : to ≡ next = just_one (next_send (place run rank)) to next (and_parts (is_active run.core rank) _ first).1 (and_parts (is_active run.core rank) _ second).1 in
      let message : ℕ → Option M = λ peer. message_at m setup run.core.epoch run.start rank peer (round_of (place run rank)) in
      let measures = one_measure (message next) blocks sum others more (subst (λ n. is_measured m setup (message n) blocks sum ≡ true) to_is tells) truly in
      let blocks_are = measures.0 in
      let sums_are = measures.1 in
      cc

  -- legal events of one rank, none of them an arrival for want of memory, are one; told of each kind of the second, at the rank of the first
  abbrev Both : Run L T → ℕ → Event → Event → Type 0
  Both run rank e f = is_legal run.core e (place run rank) ≡ true → is_legal run.core f (place run rank) ≡ true
      → tells_truly m setup run e ≡ true → tells_truly m setup run f ≡ true → is_memory e ≡ false → is_memory f ≡ false → e ≡ f

  two_events : (run : Run L T) (e f : Event) → actor e ≡ actor f → Both run (actor e) e f
  two_events run (Send rank to blocks sum) (Send second next others more) same = subst (λ r. Both run rank (Send rank to blocks sum) (Send r next others more)) same
      (λ first later tells truly _ _. same_sends run rank to blocks sum next others more first later tells truly)
  two_events run (Send rank to blocks sum) (Recv second other) same = subst (λ r. Both run rank (Send rank to blocks sum) (Recv r other)) same
      (λ first later tells truly _ _. let one = sends run.core rank to blocks sum (place run rank) first in let other_one = receives run.core rank other (place run rank) later in absurd (no_send_and_receive (place run rank) to other one.1 other_one.1.0))
  two_events run (Send rank to blocks sum) (Arrive second Broken) same = subst (λ r. Both run rank (Send rank to blocks sum) (Arrive r Broken)) same
      (λ first later tells truly _ _. let one = sends run.core rank to blocks sum (place run rank) first in let other_one = breaks run.core rank (place run rank) later in absurd (no_send_and_receive (place run rank) to other_one.1.0.0 one.1 other_one.1.0.1))
  two_events run (Send rank to blocks sum) (Arrive second Done) same = subst (λ r. Both run rank (Send rank to blocks sum) (Arrive r Done)) same
      (λ first later tells truly _ _. let one = sends run.core rank to blocks sum (place run rank) first in let other_one = arrives run.core rank (place run rank) later in absurd (no_send_and_past (place run rank) to one.1 other_one.1))
  two_events run (Send rank to blocks sum) (Leave second) same = subst (λ r. Both run rank (Send rank to blocks sum) (Leave r)) same
      (λ first later tells truly _ _. let one = sends run.core rank to blocks sum (place run rank) first in let other_one = later in absurd (not_active_leaving run.core rank one.0 other_one))
  two_events run (Send rank to blocks sum) (Die second) same = subst (λ r. Both run rank (Send rank to blocks sum) (Die r)) same
      (λ first later tells truly _ _. let one = sends run.core rank to blocks sum (place run rank) first in let other_one = later in absurd (not_due run.core rank one.0 other_one))
  two_events run (Send rank to blocks sum) (Arrive second Memory) same = λ first later tells truly _ none. absurd (cc)
  two_events run (Recv rank peer) (Send second next others more) same = subst (λ r. Both run rank (Recv rank peer) (Send r next others more)) same
      (λ first later tells truly _ _. let one = receives run.core rank peer (place run rank) first in let other_one = sends run.core rank next others more (place run rank) later in absurd (no_send_and_receive (place run rank) next peer other_one.1 one.1.0))
  two_events run (Recv rank peer) (Recv second other) same = subst (λ r. Both run rank (Recv rank peer) (Recv r other)) same
      (λ first later tells truly _ _. ap (λ p. Recv rank p) (just_one (next_receive (place run rank)) peer other (receives run.core rank peer (place run rank) first).1.0 (receives run.core rank other (place run rank) later).1.0))
  two_events run (Recv rank peer) (Arrive second Broken) same = subst (λ r. Both run rank (Recv rank peer) (Arrive r Broken)) same
      (λ first later tells truly _ _. let one = receives run.core rank peer (place run rank) first in let other_one = breaks run.core rank (place run rank) later in absurd (not_both (waits run.core rank (place run rank)) other_one.1.1 one.1.1))
  two_events run (Recv rank peer) (Arrive second Done) same = subst (λ r. Both run rank (Recv rank peer) (Arrive r Done)) same
      (λ first later tells truly _ _. let one = receives run.core rank peer (place run rank) first in let other_one = arrives run.core rank (place run rank) later in absurd (no_receive_and_past (place run rank) peer one.1.0 other_one.1))
  two_events run (Recv rank peer) (Leave second) same = subst (λ r. Both run rank (Recv rank peer) (Leave r)) same
      (λ first later tells truly _ _. let one = receives run.core rank peer (place run rank) first in let other_one = later in absurd (not_active_leaving run.core rank one.0 other_one))
  two_events run (Recv rank peer) (Die second) same = subst (λ r. Both run rank (Recv rank peer) (Die r)) same
      (λ first later tells truly _ _. let one = receives run.core rank peer (place run rank) first in let other_one = later in absurd (not_due run.core rank one.0 other_one))
  two_events run (Recv rank peer) (Arrive second Memory) same = λ first later tells truly _ none. absurd (cc)
  two_events run (Arrive rank Broken) (Send second next others more) same = subst (λ r. Both run rank (Arrive rank Broken) (Send r next others more)) same
      (λ first later tells truly _ _. let one = breaks run.core rank (place run rank) first in let other_one = sends run.core rank next others more (place run rank) later in absurd (no_send_and_receive (place run rank) next one.1.0.0 other_one.1 one.1.0.1))
  two_events run (Arrive rank Broken) (Recv second other) same = subst (λ r. Both run rank (Arrive rank Broken) (Recv r other)) same
      (λ first later tells truly _ _. let one = breaks run.core rank (place run rank) first in let other_one = receives run.core rank other (place run rank) later in absurd (not_both (waits run.core rank (place run rank)) one.1.1 other_one.1.1))
  two_events run (Arrive rank Broken) (Arrive second Broken) same = subst (λ r. Both run rank (Arrive rank Broken) (Arrive r Broken)) same
      (λ first later tells truly _ _. refl)
  two_events run (Arrive rank Broken) (Arrive second Done) same = subst (λ r. Both run rank (Arrive rank Broken) (Arrive r Done)) same
      (λ first later tells truly _ _. let one = breaks run.core rank (place run rank) first in let other_one = arrives run.core rank (place run rank) later in absurd (no_receive_and_past (place run rank) one.1.0.0 one.1.0.1 other_one.1))
  two_events run (Arrive rank Broken) (Leave second) same = subst (λ r. Both run rank (Arrive rank Broken) (Leave r)) same
      (λ first later tells truly _ _. let one = breaks run.core rank (place run rank) first in let other_one = later in absurd (not_active_leaving run.core rank one.0 other_one))
  two_events run (Arrive rank Broken) (Die second) same = subst (λ r. Both run rank (Arrive rank Broken) (Die r)) same
      (λ first later tells truly _ _. let one = breaks run.core rank (place run rank) first in let other_one = later in absurd (not_due run.core rank one.0 other_one))
  two_events run (Arrive rank Broken) (Arrive second Memory) same = λ first later tells truly _ none. absurd (cc)
  two_events run (Arrive rank Done) (Send second next others more) same = subst (λ r. Both run rank (Arrive rank Done) (Send r next others more)) same
      (λ first later tells truly _ _. let one = arrives run.core rank (place run rank) first in let other_one = sends run.core rank next others more (place run rank) later in absurd (no_send_and_past (place run rank) next other_one.1 one.1))
  two_events run (Arrive rank Done) (Recv second other) same = subst (λ r. Both run rank (Arrive rank Done) (Recv r other)) same
      (λ first later tells truly _ _. let one = arrives run.core rank (place run rank) first in let other_one = receives run.core rank other (place run rank) later in absurd (no_receive_and_past (place run rank) other other_one.1.0 one.1))
  two_events run (Arrive rank Done) (Arrive second Broken) same = subst (λ r. Both run rank (Arrive rank Done) (Arrive r Broken)) same
      (λ first later tells truly _ _. let one = arrives run.core rank (place run rank) first in let other_one = breaks run.core rank (place run rank) later in absurd (no_receive_and_past (place run rank) other_one.1.0.0 other_one.1.0.1 one.1))
  two_events run (Arrive rank Done) (Arrive second Done) same = subst (λ r. Both run rank (Arrive rank Done) (Arrive r Done)) same
      (λ first later tells truly _ _. refl)
  two_events run (Arrive rank Done) (Leave second) same = subst (λ r. Both run rank (Arrive rank Done) (Leave r)) same
      (λ first later tells truly _ _. let one = arrives run.core rank (place run rank) first in let other_one = later in absurd (not_active_leaving run.core rank one.0 other_one))
  two_events run (Arrive rank Done) (Die second) same = subst (λ r. Both run rank (Arrive rank Done) (Die r)) same
      (λ first later tells truly _ _. let one = arrives run.core rank (place run rank) first in let other_one = later in absurd (not_due run.core rank one.0 other_one))
  two_events run (Arrive rank Done) (Arrive second Memory) same = λ first later tells truly _ none. absurd (cc)
  two_events run (Leave rank) (Send second next others more) same = subst (λ r. Both run rank (Leave rank) (Send r next others more)) same
      (λ first later tells truly _ _. let one = first in let other_one = sends run.core rank next others more (place run rank) later in absurd (not_active_leaving run.core rank other_one.0 one))
  two_events run (Leave rank) (Recv second other) same = subst (λ r. Both run rank (Leave rank) (Recv r other)) same
      (λ first later tells truly _ _. let one = first in let other_one = receives run.core rank other (place run rank) later in absurd (not_active_leaving run.core rank other_one.0 one))
  two_events run (Leave rank) (Arrive second Broken) same = subst (λ r. Both run rank (Leave rank) (Arrive r Broken)) same
      (λ first later tells truly _ _. let one = first in let other_one = breaks run.core rank (place run rank) later in absurd (not_active_leaving run.core rank other_one.0 one))
  two_events run (Leave rank) (Arrive second Done) same = subst (λ r. Both run rank (Leave rank) (Arrive r Done)) same
      (λ first later tells truly _ _. let one = first in let other_one = arrives run.core rank (place run rank) later in absurd (not_active_leaving run.core rank other_one.0 one))
  two_events run (Leave rank) (Leave second) same = subst (λ r. Both run rank (Leave rank) (Leave r)) same
      (λ first later tells truly _ _. refl)
  two_events run (Leave rank) (Die second) same = subst (λ r. Both run rank (Leave rank) (Die r)) same
      (λ first later tells truly _ _. let one = first in let other_one = later in absurd (not_leaving_due run.core rank one other_one))
  two_events run (Leave rank) (Arrive second Memory) same = λ first later tells truly _ none. absurd (cc)
  two_events run (Die rank) (Send second next others more) same = subst (λ r. Both run rank (Die rank) (Send r next others more)) same
      (λ first later tells truly _ _. let one = first in let other_one = sends run.core rank next others more (place run rank) later in absurd (not_due run.core rank other_one.0 one))
  two_events run (Die rank) (Recv second other) same = subst (λ r. Both run rank (Die rank) (Recv r other)) same
      (λ first later tells truly _ _. let one = first in let other_one = receives run.core rank other (place run rank) later in absurd (not_due run.core rank other_one.0 one))
  two_events run (Die rank) (Arrive second Broken) same = subst (λ r. Both run rank (Die rank) (Arrive r Broken)) same
      (λ first later tells truly _ _. let one = first in let other_one = breaks run.core rank (place run rank) later in absurd (not_due run.core rank other_one.0 one))
  two_events run (Die rank) (Arrive second Done) same = subst (λ r. Both run rank (Die rank) (Arrive r Done)) same
      (λ first later tells truly _ _. let one = first in let other_one = arrives run.core rank (place run rank) later in absurd (not_due run.core rank other_one.0 one))
  two_events run (Die rank) (Leave second) same = subst (λ r. Both run rank (Die rank) (Leave r)) same
      (λ first later tells truly _ _. let one = first in let other_one = later in absurd (not_leaving_due run.core rank other_one one))
  two_events run (Die rank) (Die second) same = subst (λ r. Both run rank (Die rank) (Die r)) same
      (λ first later tells truly _ _. refl)
  two_events run (Die rank) (Arrive second Memory) same = λ first later tells truly _ none. absurd (cc)
  two_events run (Arrive rank Memory) f same = λ first later tells truly other none. absurd (cc)

  one_event : (run : Run L T) (e f : Event) → actor e ≡ actor f → is_legal_in m setup run e ≡ true → is_legal_in m setup run f ≡ true
      → is_memory e ≡ false → is_memory f ≡ false → e ≡ f
  unfolding is_legal_in
  one_event run e f same legal_e legal_f other none =
      let a = and_parts (is_legal run.core e (place run (actor e))) _ legal_e in
      let b = and_parts (is_legal run.core f (place run (actor f))) _ legal_f in
      two_events run e f same a.0 (subst (λ r. is_legal run.core f (place run r) ≡ true) (sym same) b.0) a.1 b.1 other none

-- ---- turns

nobody_before : (old : List Event) (event : Event) → NobodyWantsMemory (old ++ event ∷ []) → NobodyWantsMemory old
nobody_before [] event none = refl
nobody_before (e ∷ old) event none =
    let parts = or_parts (is_memory e) _ none in
    ap (λ b. b || list_any is_memory old) parts.0 ∙ nobody_before old event parts.1

nobody_last : (old : List Event) (event : Event) → NobodyWantsMemory (old ++ event ∷ []) → is_memory event ≡ false
nobody_last [] event none = (or_parts (is_memory event) _ none).0
nobody_last (e ∷ old) event none = nobody_last old event (or_parts (is_memory e) _ none).1

module _ {S L M T R : Type 0} (m : Meanings S L M T R) (good : S → Epoch → ℕ → List L → Type 0) (setup : S) where
  -- a legal journal in which nobody wants memory
  pub record IsQuiet (journal : List Event) : Type 0 where
    pub legal : is_journal m setup journal ≡ true
    pub nobody : NobodyWantsMemory journal

  quiet_before : (old new : List Event) (event : Event) → new ≡ old ++ event ∷ [] → IsQuiet new → IsQuiet old
  quiet_before old new event more quiet = record {
    legal = first_legal m setup old event (subst (λ j. is_journal m setup j ≡ true) more quiet.legal);
    nobody = nobody_before old event (subst NobodyWantsMemory more quiet.nobody);
  }

  legal_last : (old new : List Event) (event : Event) → new ≡ old ++ event ∷ [] → IsQuiet new → is_legal_in m setup (run_after m setup old) event ≡ true
  legal_last old new event more quiet = last_legal m setup old event (subst (λ j. is_journal m setup j ≡ true) more quiet.legal)

  quiet_last : (old new : List Event) (event : Event) → new ≡ old ++ event ∷ [] → IsQuiet new → is_memory event ≡ false
  quiet_last old new event more quiet = nobody_last old event (subst NobodyWantsMemory more quiet.nobody)

  pub turned_quiet : (rank : ℕ) (old new : List Event) → Grew m good setup rank old new → IsQuiet new → IsQuiet old
  turned_quiet rank old new (inl (event, (more, turn))) quiet = quiet_before old new event more quiet
  turned_quiet rank old new (inr (same, none)) quiet = subst IsQuiet same quiet

  pub turns_quiet : (ranks : List ℕ) (old new : Progress) → Turns m good setup ranks old new → IsQuiet new.journal → IsQuiet old.journal
  turns_quiet [] old new same quiet = subst IsQuiet (ap (λ p. p.journal) same) quiet
  turns_quiet (rank ∷ ranks) old new (next, (first, rest)) quiet =
      turned_quiet rank old.journal next.journal (grew m good setup rank old next first) (turns_quiet ranks next new rest quiet)

  passes_quiet : (count : ℕ) (old new : Progress) → Passes m good setup count old new → IsQuiet new.journal → IsQuiet old.journal
  passes_quiet zero old new same quiet = subst IsQuiet (ap (λ p. p.journal) same) quiet
  passes_quiet (suc count) old new (next, (first, rest)) quiet = turns_quiet (range_with_len 0 (m.ranks setup)) old next first (passes_quiet count next new rest quiet)

  -- who adds an event was offered one
  moves_where_offered : (rank : ℕ) (old new : List Event) (event : Event) → new ≡ old ++ event ∷ [] → IsTurn m good setup old rank event → IsQuiet new
      → ((e : Event) → IsOffered (run_after m setup old).core rank (place (run_after m setup old) rank) e → ⊥) → ⊥
  moves_where_offered rank old new event more turn quiet none = by_turn turn.offered
    where
      by_turn : IsOffered (run_after m setup old).core rank (place (run_after m setup old) rank) event ⊎ IsTrue (is_memory event) → ⊥
      by_turn (inl offered) = none event offered
      by_turn (inr wants) = both_ways (is_memory event) (quiet_last old new event more quiet) wants

  -- a turn leads to one journal
  turned_once : (rank : ℕ) (old new other : List Event) → IsQuiet new → IsQuiet other → Grew m good setup rank old new → Grew m good setup rank old other → new ≡ other
  turned_once rank old new other quiet still (inl (e, (more, turn))) (inl (f, (longer, its))) =
      let same : e ≡ f = one_event m setup (run_after m setup old) e f (turn.its ∙ sym its.its) (legal_last old new e more quiet) (legal_last old other f longer still)
      (quiet_last old new e more quiet) (quiet_last old other f longer still) in
      more ∙ ap (λ event. old ++ event ∷ []) same ∙ sym longer
  turned_once rank old new other quiet still (inl (e, (more, turn))) (inr (same, none)) = absurd (moves_where_offered rank old new e more turn quiet none)
  turned_once rank old new other quiet still (inr (same, none)) (inl (f, (longer, its))) = absurd (moves_where_offered rank old other f longer its still none)
  turned_once rank old new other quiet still (inr (same, none)) (inr (equal, never)) = same ∙ sym equal

  -- so do turns, whoever has failed
  pub turns_once : (ranks : List ℕ) (old before new other : Progress) → old.journal ≡ before.journal → IsQuiet new.journal → IsQuiet other.journal
      → Turns m good setup ranks old new → Turns m good setup ranks before other → new.journal ≡ other.journal
  turns_once [] old before new other start quiet still same equal = ap (λ p. p.journal) same ∙ start ∙ sym (ap (λ p. p.journal) equal)
  turns_once (rank ∷ ranks) old before new other start quiet still (next, (first, rest)) (then, (its, others)) =
      let P : List Event → Type 0 = λ j. Grew m good setup rank j then.journal in
      let same : next.journal ≡ then.journal =
      turned_once rank old.journal next.journal then.journal (turns_quiet ranks next new rest quiet) (turns_quiet ranks then other others still)
      (grew m good setup rank old next first) (subst P (sym start) (grew m good setup rank before then its)) in
      turns_once ranks next then new other same quiet still rest others

  -- once all have ended nothing is added
  ended_still : (rank : ℕ) (old new : List Event) → is_finished (run_after m setup old).core ≡ true → IsQuiet new → Grew m good setup rank old new → new ≡ old
  unfolding is_legal_in
  ended_still rank old new over quiet (inr (same, none)) = same
  ended_still rank old new over quiet (inl (event, (more, turn))) =
      let core = (run_after m setup old).core in
      let rests = nobody_any goes_on core refl (not-true _ over) (actor event) in
      let legal = (and_parts (is_legal core event (place (run_after m setup old) (actor event))) _ (legal_last old new event more quiet)).0 in
      absurd (both_ways (is_legal core event (place (run_after m setup old) (actor event))) (nothing_legal core event (place (run_after m setup old) (actor event)) rests) legal)

  ends : (j k : List Event) → j ≡ k → is_finished (run_after m setup j).core ≡ true → is_finished (run_after m setup k).core ≡ true
  ends j k same over = subst (λ i. is_finished (run_after m setup i).core ≡ true) same over

  turns_still : (ranks : List ℕ) (old new : Progress) → is_finished (run_after m setup old.journal).core ≡ true → IsQuiet new.journal → Turns m good setup ranks old new
      → new.journal ≡ old.journal
  turns_still [] old new over quiet same = ap (λ p. p.journal) same
  turns_still (rank ∷ ranks) old new over quiet (next, (first, rest)) =
      let same : next.journal ≡ old.journal = ended_still rank old.journal next.journal over (turns_quiet ranks next new rest quiet) (grew m good setup rank old next first) in
      turns_still ranks next new (ends old.journal next.journal (sym same) over) quiet rest ∙ same

  passes_still : (count : ℕ) (old new : Progress) → is_finished (run_after m setup old.journal).core ≡ true → IsQuiet new.journal → Passes m good setup count old new
      → new.journal ≡ old.journal
  passes_still zero old new over quiet same = ap (λ p. p.journal) same
  passes_still (suc count) old new over quiet (next, (first, rest)) =
      let same : next.journal ≡ old.journal = turns_still (range_with_len 0 (m.ranks setup)) old next over (passes_quiet count next new rest quiet) first in
      passes_still count next new (ends old.journal next.journal (sym same) over) quiet rest ∙ same

  -- so the passes lead to one journal in which all have ended
  passes_once : (count more : ℕ) (old before new other : Progress) → old.journal ≡ before.journal → IsQuiet new.journal → IsQuiet other.journal
      → is_finished (run_after m setup new.journal).core ≡ true → is_finished (run_after m setup other.journal).core ≡ true
      → Passes m good setup count old new → Passes m good setup more before other → new.journal ≡ other.journal
  passes_once zero more old before new other start quiet still over end same passes =
      let there : new.journal ≡ before.journal = ap (λ p. p.journal) same ∙ start in
      there ∙ sym (passes_still more before other (ends new.journal before.journal there over) still passes)
  passes_once (suc count) zero old before new other start quiet still over end passes same =
      let there : other.journal ≡ old.journal = ap (λ p. p.journal) same ∙ sym start in
      passes_still (suc count) old new (ends other.journal old.journal there end) quiet passes ∙ sym there
  passes_once (suc count) (suc more) old before new other start quiet still over end (next, (first, rest)) (then, (its, others)) =
      let same : next.journal ≡ then.journal =
      turns_once (range_with_len 0 (m.ranks setup)) old before next then start (passes_quiet count next new rest quiet) (passes_quiet more then other others still) first its in
      passes_once count more next then new other same quiet still over end rest others

  pub driven_once : (order : List ℕ) (new other : List Event) → IsQuiet new → IsQuiet other
      → is_finished (run_after m setup new).core ≡ true → is_finished (run_after m setup other).core ≡ true
      → IsDriven m good setup order new → IsDriven m good setup order other → new ≡ other
  driven_once order new other quiet still over end (failed, (next, (first, (count, passes)))) (lost, (then, (its, (more, others)))) =
      let here : Progress = record { journal = new; failed = failed } in
      let there : Progress = record { journal = other; failed = lost } in
      let same : next.journal ≡ then.journal =
      turns_once order beginning beginning next then refl (passes_quiet count next here passes quiet) (passes_quiet more then there others still) first its in
      passes_once count more next then here there same quiet still over end passes others
