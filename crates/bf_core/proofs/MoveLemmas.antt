-- In every order some rank that goes on can move.
use Rattle.std.proofs.Common.{◌≡◌, ℕ, zero, suc, ◌+◌, ◌<◌, Bool, true, false, ◌&&◌, not, arith, refl, sym, ◌∙◌, ap, inl, inr}
use Rattle.std.specs.Prelude.{◌⊎◌, ◌==◌, Option, Some, None, is_some}
use Rattle.std.proofs.lemmas.Bool.{eqb-true, eq-eqb, not-false, and_from}
use Rattle.bf_core.specs.declared.event.Event.TheVariants.{Send, Recv, Arrive, Leave, Die}
use Rattle.bf_core.specs.declared.event.How.TheVariants as hows
use Rattle.bf_core.specs.declared.outcome.Outcome.{Outcome}
use Rattle.bf_core.specs.declared.place.Place.{Place}
use Rattle.bf_core.specs.declared.place.Place.TheVariants.{Rounds, Past}
use Rattle.bf_core.specs.declared.standing.Stage.{Stage}
use Rattle.bf_core.specs.declared.standing.Stage.TheVariants.{Running, Arrived, Leaving, Ended, Dead, Gone}
use Rattle.bf_core.specs.Stages.{is_running, is_leaving, is_awaited, goes_on}
use Rattle.bf_core.specs.Places.{is_just, round_of, next_send, next_receive, is_past}
use Rattle.bf_core.specs.States.{State, stage, queue, is_due, is_active, has_dead_member, is_short_of_memory, is_finished}
use Rattle.bf_core.specs.Legal.{waits, is_empty_from}
use Rattle.bf_core.specs.Orders.{IsReached, IsBehind, AreInOrder, CanMove}
use Rattle.bf_core.proofs.StageLemmas.{someone}
use Rattle.bf_core.proofs.SoundLemmas.{IsSound, is_open, reached_sound}

can_die : (state : State) (places : ℕ → Place) (rank : ℕ) → is_due state rank ≡ true → CanMove state places
can_die state places rank due = (rank, (Die rank, record { its = refl; legal = due; memory = λ wants. absurd (cc) }))

can_leave : (state : State) (places : ℕ → Place) (rank : ℕ) → is_leaving (stage state rank) ≡ true → is_due state rank ≡ false → CanMove state places
can_leave state places rank leaving undue =
    (rank, (Leave rank, record { its = refl; legal = and_from _ _ leaving (ap not undue); memory = λ wants. absurd (cc) }))

can_send : (state : State) (places : ℕ → Place) (rank : ℕ) → is_active state rank ≡ true → is_some (next_send (places rank)) ≡ true → CanMove state places
can_send state places rank active sends = by_next (next_send (places rank)) refl sends
  where
    by_next : (o : Option ℕ) → next_send (places rank) ≡ o → is_some o ≡ true → CanMove state places
    by_next (Some to) is_next _ = (
      rank,
      (
        Send rank to 0 0,
        record {
          its = refl;
          legal = and_from _ _ active (ap (λ o. is_just o to) is_next ∙ eq-eqb to to refl);
          memory = λ wants. absurd (cc);
        },
      ),
    )
    by_next None is_next none = absurd (cc)

can_arrive : (state : State) (places : ℕ → Place) (rank : ℕ) → is_active state rank ≡ true → is_past (places rank) ≡ true → CanMove state places
can_arrive state places rank active past =
    (rank, (Arrive rank hows.Done, record { its = refl; legal = and_from _ _ active past; memory = λ wants. absurd (cc) }))

-- a rank that has not arrived moves by itself where it is due, must leave, or does what an active rank does
by_stage_of : (state : State) (places : ℕ → Place) (rank : ℕ) → is_awaited (stage state rank) ≡ true → (is_running (stage state rank) ≡ true → is_active state rank ≡ true → CanMove state places)
    → CanMove state places
by_stage_of state places rank awaited active_moves = by_due (is_due state rank) refl
  where
    by_stage : is_due state rank ≡ false → (s : Stage) → stage state rank ≡ s → is_awaited s ≡ true → CanMove state places
    by_stage undue Running runs _ = active_moves (ap is_running runs) (and_from _ _ (ap is_running runs) (ap not undue))
    by_stage undue Leaving leaving _ = can_leave state places rank (ap is_leaving leaving) undue
    by_stage undue (Arrived how filled) _ none = absurd (cc)
    by_stage undue Ended _ none = absurd (cc)
    by_stage undue Dead _ none = absurd (cc)
    by_stage undue Gone _ none = absurd (cc)

    by_due : (b : Bool) → is_due state rank ≡ b → CanMove state places
    by_due true due = can_die state places rank due
    by_due false undue = by_stage undue (stage state rank) refl awaited

-- a rank behind one that receives is in an earlier round, or can send
behind : (place other : Place) (peer : ℕ) → IsBehind place other → next_receive other ≡ Some peer → (round_of place < round_of other) ⊎ (is_some (next_send place) ≡ true)
behind (Rounds round sent received peers) (Rounds later _ _ _) peer (inl earlier) receives = inl earlier
behind (Rounds round sent received peers) (Rounds later _ _ _) peer (inr same) receives = inr same.1
behind (Rounds round sent received peers) Past peer _ receives = absurd (cc)
behind Past place peer none receives = absurd none

module _ (state : State) (places : ℕ → Place) (order : AreInOrder state places) where
  -- a rank whose round is below a bound and that has not arrived leads to one that can move
  awaited_moves : (bound : ℕ) (rank : ℕ) → is_awaited (stage state rank) ≡ true → round_of (places rank) < bound → CanMove state places
  awaited_moves zero rank awaited below = absurd (omega arith)
  awaited_moves (suc bound) rank awaited below = by_stage_of state places rank awaited
      (λ runs active. active_moves (λ peer. awaited_moves bound peer) runs active)
    where
      active_moves : ((peer : ℕ) → is_awaited (stage state peer) ≡ true → round_of (places peer) < bound → CanMove state places)
          → is_running (stage state rank) ≡ true → is_active state rank ≡ true → CanMove state places
      active_moves earlier runs active = by_next (order.next rank runs)
        where
          on_empty : (peer : ℕ) → next_receive (places rank) ≡ Some peer → queue state peer rank ≡ 0 → waits state rank (places rank) ≡ true
              → (dead short : Bool) → has_dead_member state ≡ dead → is_short_of_memory state ≡ short → CanMove state places
          on_empty peer receives empty waiting true short dies _ = (
            rank,
            (
              Arrive rank hows.Broken,
              record
                  { its = refl; legal = and_from _ _ (and_from _ _ active waiting) dies; memory = λ wants. absurd (cc) },
            ),
          )
          on_empty peer receives empty waiting false true alive wants_memory = (
            rank,
            (
              Arrive rank hows.Memory,
              record
                  { its = refl; legal = active; memory = λ _. and_from _ _ (and_from _ _ waiting (ap not alive)) wants_memory },
            ),
          )
          on_empty peer receives empty waiting false false alive fits =
              let sender : (is_awaited (stage state peer) ≡ true) × IsBehind (places peer) (places rank) = order.behind rank peer runs receives empty alive fits in
              elim (behind (places peer) (places rank) peer sender.1 receives) [
                | inl lower ↦ earlier peer sender.0 (omega (arith, lower, below))
                | inr sends ↦ by_stage_of state places peer sender.0 (λ _ peer_active. can_send state places peer peer_active sends)
              ]

          by_queue : (peer : ℕ) → next_receive (places rank) ≡ Some peer → (b : Bool) → (queue state peer rank == 0) ≡ b → CanMove state places
          by_queue peer receives true empty = on_empty peer receives (eqb-true _ 0 empty) (ap (is_empty_from state rank) receives ∙ empty)
              (has_dead_member state) (is_short_of_memory state) refl refl
          by_queue peer receives false waiting = (
            rank,
            (
              Recv rank peer,
              record {
                its = refl;
                legal = and_from _ _ (and_from _ _ active (ap (λ o. is_just o peer) receives ∙ eq-eqb peer peer refl)) (ap not (ap (is_empty_from state rank) receives ∙ waiting));
                memory = λ wants. absurd (cc);
              },
            ),
          )

          by_peer : (o : Option ℕ) → next_receive (places rank) ≡ o → is_some o ≡ true → CanMove state places
          by_peer (Some peer) receives _ = by_queue peer receives (queue state peer rank == 0) refl
          by_peer None _ none = absurd (cc)

          by_next : (is_past (places rank) ≡ true) ⊎ ((is_some (next_send (places rank)) ≡ true) ⊎ (is_some (next_receive (places rank)) ≡ true)) → CanMove state places
          by_next (inl past) = can_arrive state places rank active past
          by_next (inr (inl sends)) = can_send state places rank active sends
          by_next (inr (inr receives)) = by_peer (next_receive (places rank)) refl receives

  pub somebody_moves : IsSound state → is_finished state ≡ false → CanMove state places
  somebody_moves sound unfinished = let one = someone goes_on state (not-false _ unfinished) in by_stage one.0 (stage state one.0) refl one.1.1
    where
      awaited_by : (rank : ℕ) → is_awaited (stage state rank) ≡ true → CanMove state places
      awaited_by rank awaited = awaited_moves (round_of (places rank) + 1) rank awaited (omega arith)

      arrived_by : (rank : ℕ) → is_open (stage state rank) ≡ true → goes_on (stage state rank) ≡ true → (o : Option Outcome) → state.outcome ≡ o → CanMove state places
      arrived_by rank opens goes (Some outcome) ends = absurd (let e : true ≡ false = sym opens ∙ sound.over outcome ends rank in cc)
      arrived_by rank opens goes None none = elim (sound.running none) [
        | inl some ↦ awaited_by some.0 some.1.1
        | inr nobody_goes ↦ absurd (let e : true ≡ false = sym goes ∙ nobody_goes rank in cc)
      ]

      by_stage : (rank : ℕ) (s : Stage) → stage state rank ≡ s → goes_on s ≡ true → CanMove state places
      by_stage rank Running runs _ = awaited_by rank (ap is_awaited runs)
      by_stage rank Leaving leaving _ = awaited_by rank (ap is_awaited leaving)
      by_stage rank (Arrived how filled) arrived _ = arrived_by rank (ap is_open arrived) (ap goes_on arrived) state.outcome refl
      by_stage rank Ended _ none = absurd (cc)
      by_stage rank Dead _ none = absurd (cc)
      by_stage rank Gone _ none = absurd (cc)

pub can_move : (state : State) (places : ℕ → Place) → IsReached state → AreInOrder state places → is_finished state ≡ false → CanMove state places
can_move state places reached order unfinished = somebody_moves state places order (reached_sound state reached) unfinished
