-- In every lawful run the places are in order, so while some rank goes on some rank can move.
use Rattle.std.proofs.Common.{◌≡◌, ◌≢◌, ℕ, ◌<◌, Bool, true, false, not, List, refl, sym, subst, ◌∙◌, ap}
use Rattle.std.specs.Prelude.{Option, Some, None}
use Rattle.std.specs.List.{range_with_len}
use Rattle.std.proofs.lemmas.Bool.{not-true}
use Rattle.bf_core.specs.Places.{round_of}
use Rattle.bf_buddy.specs.Members.{is_member}
use Rattle.bf_program.specs.declared.epoch.Epoch.{Epoch}
use Rattle.bf_program.specs.Meanings.{Meanings}
use Rattle.bf_program.specs.Laws.{KeepsGood, KeepsStored, KeepsPeers}
use Rattle.bf_core.specs.declared.event.How.{How}
use Rattle.bf_core.specs.declared.event.How.TheVariants.{Done, Broken, Memory}
use Rattle.bf_core.specs.declared.outcome.Outcome.{Outcome}
use Rattle.bf_core.specs.declared.place.Place.TheVariants.{Past}
use Rattle.bf_core.specs.declared.standing.Stage.{Stage}
use Rattle.bf_core.specs.declared.standing.Stage.TheVariants.{Running, Arrived, Leaving, Ended, Dead, Gone}
use Rattle.bf_core.specs.Stages.{is_awaited, is_dead, is_gone, is_short}
use Rattle.bf_core.specs.Orders.{IsBehind, AreInOrder, CanMove}
use Rattle.bf_core.specs.States.{stage, has_dead_member, is_short_of_memory, is_finished}
use Rattle.bf_core.proofs.StageLemmas.{someone_any, nobody_any}
use Rattle.bf_core.proofs.SoundLemmas.{IsSound, running_stage, is_open}
use Rattle.bf_core.proofs.ArrivalLemmas.{is_broken, has_ended}
use Rattle.bf_core.proofs.LawLemmas.{passes}
use Rattle.bf_core.proofs.MoveLemmas.{somebody_moves}
use Rattle.bf_world.specs.Course.{peers_at}
use Rattle.bf_world.specs.Messages.{AreQueuesOf}
use Rattle.bf_world.specs.Queues.{Waiting}
use Rattle.bf_world.specs.Runs.{Run, place}
use Rattle.bf_world.proofs.LawfulLemmas.{IsLawful}
use Rattle.bf_world.proofs.PeerLemmas.{peer_is_other}
use Rattle.bf_world.proofs.MessageLemmas.{has_next, receives_from_peer}
use Rattle.bf_world.proofs.WaitingLemmas.{behind_where_none}

module _ {S L M T R : Type 0} (m : Meanings S L M T R) (good : S → Epoch → ℕ → List L → Type 0) (setup : S)
    (goods : KeepsGood m good setup) (stores : KeepsStored m good setup) (peers : KeepsPeers m good setup) where
  -- a run goes on where some rank does its rounds
  goes_on_where : (run : Run L T) (rank : ℕ) → IsSound run.core → stage run.core rank ≡ Running → run.core.outcome ≡ None
  goes_on_where run rank sound runs = by_outcome run.core.outcome refl
    where
      by_outcome : (o : Option Outcome) → run.core.outcome ≡ o → run.core.outcome ≡ None
      by_outcome (Some outcome) ends = absurd (let e : true ≡ false = sym (ap is_open runs) ∙ sound.over outcome ends rank in cc)
      by_outcome None none = none

  -- the sender of a message that is waited for has not arrived, where every member lives and none wants memory
  sender_awaited : (run : Run L T) (rank peer : ℕ) → IsLawful m good setup goods stores run → stage run.core rank ≡ Running
      → is_member run.core.epoch.members peer ≡ true → IsBehind (place run peer) (place run rank)
      → has_dead_member run.core ≡ false → is_short_of_memory run.core ≡ false → is_awaited (stage run.core peer) ≡ true
  sender_awaited run rank peer lawful runs member is_behind alive fits = by_stage (stage run.core peer) refl
    where
      none : run.core.outcome ≡ None
      none = goes_on_where run rank lawful.sound runs

      here : is_gone (stage run.core peer) ≡ false
      here = not-true (is_gone (stage run.core peer)) (passes (λ r. not (is_gone (stage run.core r))) (range_with_len 0 run.core.ranks) peer
          (ap (λ members. is_member members peer) (sym (lawful.sound.members none)) ∙ member))

      not_past : place run peer ≡ Past → ⊥
      not_past past = subst (λ p. IsBehind p (place run rank)) past is_behind

      by_how : (how : How) (filled : Bool) → stage run.core peer ≡ Arrived how filled → is_awaited (Arrived how filled) ≡ true
      by_how Done filled arrived = absurd (not_past (lawful.steady.done peer filled arrived).0)
      by_how Broken filled arrived =
          absurd (let e : true ≡ false = sym (someone_any is_dead run.core (lawful.fair.broken peer (ap is_broken arrived))) ∙ alive in cc)
      by_how Memory filled arrived = absurd (let e : true ≡ false = sym (ap is_short arrived) ∙ nobody_any is_short run.core refl fits peer in cc)

      by_stage : (s : Stage) → stage run.core peer ≡ s → is_awaited (stage run.core peer) ≡ true
      by_stage Running at = ap is_awaited at
      by_stage Leaving at = ap is_awaited at
      by_stage (Arrived how filled) at = ap is_awaited at ∙ by_how how filled at
      by_stage Ended at = absurd (let e : true ≡ false = sym (ap has_ended at) ∙ lawful.fair.unended none peer in cc)
      by_stage Dead at = absurd (let e : true ≡ false = sym (ap is_dead at) ∙ nobody_any is_dead run.core refl alive peer in cc)
      by_stage Gone at = absurd (let e : true ≡ false = sym (ap is_gone at) ∙ here in cc)

  pub in_order : (run : Run L T) (waiting : Waiting M) → IsLawful m good setup goods stores run → AreQueuesOf m setup run waiting → AreInOrder run.core (place run)
  in_order run waiting lawful queues = record {
    next = λ rank _. has_next m setup run.core.epoch run.start rank (place run rank) (lawful.steady.placed rank);
    behind = λ rank peer runs receives none alive fits.
        let running : stage run.core rank ≡ Running = running_stage run.core rank runs in
        let is_behind : IsBehind (place run peer) (place run rank) =
        behind_where_none m good setup goods peers run waiting rank peer lawful.steady lawful.sound queues running receives none in
        let from : (round_of (place run rank) < m.rounds setup run.core.epoch) × (is_member (peers_at m setup run.core.epoch run.start rank (round_of (place run rank))) peer ≡ true) =
        receives_from_peer m setup run.core.epoch run.start rank peer (place run rank) (lawful.steady.placed rank) receives in
        let other : (is_member run.core.epoch.members peer ≡ true) × (peer ≢ rank) =
        peer_is_other m good setup goods peers run.core.epoch run.start lawful.steady.good_start rank peer (round_of (place run rank)) from.0 from.1 in
        (sender_awaited run rank peer lawful running other.0 is_behind alive fits, is_behind);
  }

  -- while some rank lives and has not ended, some rank is offered an event
  pub somebody_can_move : (run : Run L T) (waiting : Waiting M) → IsLawful m good setup goods stores run → AreQueuesOf m setup run waiting
      → is_finished run.core ≡ false → CanMove run.core (place run)
  somebody_can_move run waiting lawful queues unfinished = somebody_moves run.core (place run) (in_order run waiting lawful queues) lawful.sound unfinished
