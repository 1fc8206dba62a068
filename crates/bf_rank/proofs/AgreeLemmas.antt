-- A rank's account agrees with the run through other ranks' events and through decisions.
use Rattle.std.proofs.Common.{◌≡◌, ◌≢◌, ℕ, ◌<◌, Bool, true, false, cond, ◌||◌, not, List, [], ◌∷◌, map, filter, refl, sym, subst, ◌∙◌, ap}
use Rattle.std.specs.Prelude.{◌==◌, Option, Some, None, is_some, if◌then◌else◌}
use Rattle.std.proofs.lemmas.List.{get_or-set_other}
use Rattle.std.proofs.lemmas.Bool.{not-true, and_parts}
use Rattle.std.proofs.lemmas.Option.{same_Some}
use Rattle.bf_buddy.specs.Members.{is_member}
use Rattle.bf_program.specs.declared.epoch.Epoch.{Epoch}
use Rattle.bf_program.specs.Meanings.{Meanings}
use Rattle.bf_program.specs.Lockstep.{local_of}
use Rattle.bf_program.specs.Laws.{KeepsReads}
use Rattle.bf_program.specs.Restores.{restored_epoch, restored_locals}
use Rattle.bf_program.proofs.SeatLemmas.{local_mapped, local_chosen}
use Rattle.bf_core.specs.declared.decision.Decision.{Decision}
use Rattle.bf_core.specs.declared.decision.Decision.TheVariants.{Lose, WantMemory, Commit, Restore}
use Rattle.bf_core.specs.declared.event.Event.{Event}
use Rattle.bf_core.specs.declared.event.Event.TheVariants.{Send, Recv, Arrive, Leave, Die}
use Rattle.bf_core.specs.declared.event.How.TheVariants.{Done, Broken, Memory}
use Rattle.bf_core.specs.declared.outcome.Outcome.{Outcome}
use Rattle.bf_core.specs.declared.outcome.Outcome.TheVariants as outcomes
use Rattle.bf_core.specs.declared.place.Place.TheVariants.{Past}
use Rattle.bf_core.specs.declared.standing.Stage.{Stage}
use Rattle.bf_core.specs.declared.standing.Stage.TheVariants.{Running, Arrived, Leaving, Ended, Dead, Gone}
use Rattle.bf_core.specs.Stages.{is_awaited, is_short, is_gone, goes_on, lives, after_decision, has_finished_rounds}
use Rattle.bf_core.specs.States.{State, stage, live_members, is_short_of_memory, first_lost}
use Rattle.bf_core.specs.Legal.{actor, is_legal}
use Rattle.bf_core.specs.Next.{may_decide, happened, is_ripe, is_everyone_done, decision, decision_where, decided, dissolved, ended, committed, restored}
use Rattle.bf_core.proofs.LawLemmas.{IsStep, step_of, IsSameEpoch, same_epoch, running_where_ripe}
use Rattle.bf_core.specs.declared.event.How.{How}
use Rattle.bf_core.proofs.StageLemmas.{nobody, nobody_any, stage_dissolved}
use Rattle.bf_core.proofs.ListLemmas.{all_at}
use Rattle.bf_core.proofs.SoundLemmas.{commit_when_done}
use Rattle.bf_world.proofs.HoldLemmas.{begins_at}
use Rattle.bf_world.specs.Runs.{Run, place, begun, last_locals, will_be_filled, run_happened, run_decided, run_settled, next_run}
use Rattle.bf_rank.specs.declared.stand.Stand.{Stand}
use Rattle.bf_rank.specs.declared.stand.Stand.TheVariants as stands
use Rattle.bf_rank.specs.Ranks.{RankView, Sight, sight, IsSaved, WillBegin, HasLocal, Agrees}
use Rattle.bf_rank.proofs.ArriveLemmas.{saved_at, saved_done}

module _ {S L M T R : Type 0} (m : Meanings S L M T R) (good : S → Epoch → ℕ → List L → Type 0) (setup : S) where
  -- another rank's event, before any decision, changes nothing that concerns a rank
  same_sight : (run : Run L T) (event : Event) (rank : ℕ) → IsStep run.core event (will_be_filled m setup run (actor event)) → rank ≢ actor event
      → sight (run_happened m setup run event) rank ≡ sight run rank
  same_sight run (Send actor to blocks sum) rank step differs =
      ap (λ s. record { epoch = run.core.epoch; start = run.start; steps = run.core.steps; outcome = run.core.outcome; stage = s; place = place (run_happened m setup run (Send actor to blocks sum)) rank }) (step.moved.others rank differs)
      ∙ ap (λ p. record { epoch = run.core.epoch; start = run.start; steps = run.core.steps; outcome = run.core.outcome; stage = stage run.core rank; place = p }) (get_or-set_other run.places actor rank _ Past differs)
  same_sight run (Recv actor peer) rank step differs =
      ap (λ s. record { epoch = run.core.epoch; start = run.start; steps = run.core.steps; outcome = run.core.outcome; stage = s; place = place (run_happened m setup run (Recv actor peer)) rank }) (step.moved.others rank differs)
      ∙ ap (λ p. record { epoch = run.core.epoch; start = run.start; steps = run.core.steps; outcome = run.core.outcome; stage = stage run.core rank; place = p }) (get_or-set_other run.places actor rank _ Past differs)
  same_sight run (Arrive actor how) rank step differs =
      ap (λ s. record { epoch = run.core.epoch; start = run.start; steps = run.core.steps; outcome = run.core.outcome; stage = s; place = place run rank }) (step.moved.others rank differs)
  same_sight run (Leave actor) rank step differs =
      ap (λ s. record { epoch = run.core.epoch; start = run.start; steps = run.core.steps; outcome = run.core.outcome; stage = s; place = place run rank }) (step.moved.others rank differs)
  same_sight run (Die actor) rank step differs =
      ap (λ s. record { epoch = run.core.epoch; start = run.start; steps = run.core.steps; outcome = run.core.outcome; stage = s; place = place run rank }) (step.moved.others rank differs)

rests_on : (s : Stage) → goes_on s ≡ false → goes_on (after_decision s) ≡ false
rests_on Running goes = absurd (cc)
rests_on (Arrived how filled) goes = absurd (cc)
rests_on Leaving goes = absurd (cc)
rests_on Ended _ = refl
rests_on Dead _ = refl
rests_on Gone _ = refl

-- who has a local is a member
has_seat : {L : Type 0} (members : List ℕ) (locals : List L) (rank : ℕ) (local : L) → local_of members locals rank ≡ Some local → is_member members rank ≡ true
has_seat [] locals rank local its = absurd (cc)
has_seat (x ∷ xs) [] rank local its = absurd (cc)
has_seat (x ∷ xs) (l ∷ ls) rank local its = by_head (λ later. has_seat xs ls rank local later) (x == rank) its
  where
    by_head : (local_of xs ls rank ≡ Some local → is_member xs rank ≡ true) → (b : Bool) → cond b (Some l) (local_of xs ls rank) ≡ Some local → (b || is_member xs rank) ≡ true
    by_head rest true _ = refl
    by_head rest false later = rest later

module _ {S L M T R : Type 0} (m : Meanings S L M T R) (good : S → Epoch → ℕ → List L → Type 0) (setup : S) (saves : KeepsReads m setup) where
  -- a member that goes on after a commit keeps its last local
  kept_begins : (run : Run L T) (parcels : List (ℕ × T)) (rank : ℕ) (local : L)
      → local_of run.core.epoch.members (last_locals m setup run) rank ≡ Some local
      → WillBegin m good setup false (sight (begun m setup (committed run.core) (map m.keep (last_locals m setup run)) parcels) rank) rank local
  kept_begins run parcels rank local last = local_mapped m.keep run.core.epoch.members (last_locals m setup run) rank local last

  -- a member that lives goes back to what it has
  restored_begins : (run : Run L T) (rank : ℕ) (local : L) → good setup run.core.epoch 0 run.start → lives (stage run.core rank) ≡ true → IsSaved m good setup (sight run rank) rank local
      → WillBegin m good setup true
      (sight (begun m setup (restored run.core) (restored_locals m setup run.core.epoch (λ r. lives (stage run.core r)) run.start) []) rank) rank local
  unfolding restored_locals live_members
  restored_begins run rank local is_good live saved =
      let chosen : local_of (filter (λ r. lives (stage run.core r)) run.core.epoch.members)
      (restored_locals m setup run.core.epoch (λ r. lives (stage run.core r)) run.start) rank
      ≡ Some (m.restore setup saved.first rank (restored_epoch (λ r. lives (stage run.core r)) run.core.epoch)) =
      local_chosen (λ seat. m.restore setup seat.1 seat.0 (restored_epoch (λ r. lives (stage run.core r)) run.core.epoch)) (λ r. lives (stage run.core r))
      run.core.epoch.members run.start rank saved.first saved.its live in (
        record {
          member = has_seat _ _ rank _ chosen;
          before = run.core.epoch;
          time = refl;
          homes = refl;
          round = 0;
          locals = run.start;
          is_good = is_good;
          agreed = saved.first;
          its = saved.its;
          same = saved.same;
        },
        chosen ∙ ap Some (sym (saves.alone local saved.first rank (restored_epoch (λ r. lives (stage run.core r)) run.core.epoch) saved.same)),
      )

  -- a decided run that ends: who has arrived must leave, and where it finishes has what it had
  agrees_ended : (run : Run L T) (outcome : Outcome) (view : RankView L) (stand : Stand) → is_awaited (stage run.core view.rank) ≡ false
      → (outcome ≡ outcomes.Finished → (is_gone (stage run.core view.rank) || has_finished_rounds (stage run.core view.rank)) ≡ true)
      → Agrees m good setup (sight run view.rank) view stand → Agrees m good setup (sight (record run { core = ended run.core outcome }) view.rank) view stand
  unfolding dissolved
  agrees_ended run outcome view stands.Opening awaits done agrees = absurd (let e : true ≡ false = sym (ap is_awaited agrees.0) ∙ awaits in cc)
  agrees_ended run outcome view (stands.Placed at) awaits done agrees = absurd (let e : true ≡ false = sym (ap is_awaited agrees.0) ∙ awaits in cc)
  agrees_ended run outcome view stands.Failed awaits done agrees = absurd (let e : true ≡ false = sym (ap is_awaited agrees.0) ∙ awaits in cc)
  agrees_ended run outcome view stands.Ended awaits done agrees = ap goes_on (stage_dissolved run.core view.rank) ∙ rests_on (stage run.core view.rank) agrees
  agrees_ended run outcome view stands.Arrived awaits done agrees =
      let P : Stage → Type 0 = HasLocal m good setup (sight (record run { core = ended run.core outcome }) view.rank) view in
      subst P (sym (stage_dissolved run.core view.rank)) (by_stage (stage run.core view.rank) refl awaits agrees)
    where
      unfinished : (s : Stage) → stage run.core view.rank ≡ s → (is_gone s || has_finished_rounds s) ≡ false → Some outcome ≡ Some outcomes.Finished → ⊥
      unfinished s at undone ends =
          let e : true ≡ false = sym (done (same_Some _ _ ends)) ∙ ap (λ t. is_gone t || has_finished_rounds t) at ∙ undone in cc

      by_stage : (s : Stage) → stage run.core view.rank ≡ s → is_awaited s ≡ false → HasLocal m good setup (sight run view.rank) view s
          → HasLocal m good setup (sight (record run { core = ended run.core outcome }) view.rank) view (after_decision s)
      by_stage (Arrived Done filled) at quiet (local, (its, has)) = ((λ none. absurd (cc)), (λ ends. (local, (its, record { last = has.last; its = has.its; here = has.here }))))
      by_stage (Arrived Broken filled) at quiet has = ((λ none. absurd (cc)), (λ ends. absurd (unfinished (Arrived Broken filled) at refl ends)))
      by_stage (Arrived Memory filled) at quiet has = ((λ none. absurd (cc)), (λ ends. absurd (unfinished (Arrived Memory filled) at refl ends)))
      by_stage Leaving at quiet has = absurd (cc)
      by_stage Running at quiet has = absurd has
      by_stage Ended at quiet has = absurd has
      by_stage Dead at quiet has = absurd has
      by_stage Gone at quiet has = absurd has

  -- a decision that begins an epoch: whoever has arrived has what it begins with
  agrees_begun : (run : Run L T) (core : State) (start : List L) (parcels : List (ℕ × T)) (view : RankView L) (stand : Stand) → core.outcome ≡ None → view.rank < m.ranks setup → is_awaited (stage run.core view.rank) ≡ false
      → stage core view.rank ≡ after_decision (stage run.core view.rank)
      → ((how : How) (filled : Bool) → stage run.core view.rank ≡ Arrived how filled → HasLocal m good setup (sight run view.rank) view (Arrived how filled)
      → (local : L) × ((view.local ≡ Some local) × WillBegin m good setup core.epoch.restored (sight (begun m setup core start parcels) view.rank) view.rank local))
      → Agrees m good setup (sight run view.rank) view stand → Agrees m good setup (sight (begun m setup core start parcels) view.rank) view stand
  agrees_begun run core start parcels view stands.Opening on ranked awaits same begins agrees = absurd (let e : true ≡ false = sym (ap is_awaited agrees.0) ∙ awaits in cc)
  agrees_begun run core start parcels view (stands.Placed at) on ranked awaits same begins agrees = absurd (let e : true ≡ false = sym (ap is_awaited agrees.0) ∙ awaits in cc)
  agrees_begun run core start parcels view stands.Failed on ranked awaits same begins agrees = absurd (let e : true ≡ false = sym (ap is_awaited agrees.0) ∙ awaits in cc)
  agrees_begun run core start parcels view stands.Ended on ranked awaits same begins agrees = ap goes_on same ∙ rests_on (stage run.core view.rank) agrees
  agrees_begun run core start parcels view stands.Arrived on ranked awaits same begins agrees =
      let P : Stage → Type 0 = HasLocal m good setup (sight (begun m setup core start parcels) view.rank) view in
      subst P (sym same) (by_stage (stage run.core view.rank) refl awaits agrees)
    where
      by_stage : (s : Stage) → stage run.core view.rank ≡ s → is_awaited s ≡ false → HasLocal m good setup (sight run view.rank) view s
          → HasLocal m good setup (sight (begun m setup core start parcels) view.rank) view (after_decision s)
      by_stage (Arrived how filled) at quiet has =
          ((λ none. (begins_at m setup core start parcels view.rank ranked, begins how filled at has)), (λ ends. absurd (let e : None ≡ Some outcomes.Finished = sym on ∙ ends in cc)))
      by_stage Leaving at quiet has = absurd (cc)
      by_stage Running at quiet has = absurd has
      by_stage Ended at quiet has = absurd has
      by_stage Dead at quiet has = absurd has
      by_stage Gone at quiet has = absurd has

  -- a commit that begins an epoch
  agrees_committed : (run : Run L T) (parcels : List (ℕ × T)) (view : RankView L) (stand : Stand) → view.rank < m.ranks setup → is_awaited (stage run.core view.rank) ≡ false
      → run.core.outcome ≡ None → is_everyone_done run.core ≡ true → (run.core.epoch.target == run.core.steps) ≡ false
      → Agrees m good setup (sight run view.rank) view stand
      → Agrees m good setup (sight (begun m setup (committed run.core) (map m.keep (last_locals m setup run)) parcels) view.rank) view stand
  unfolding dissolved last_locals
  agrees_committed run parcels view stand ranked awaits none done unended agrees =
      agrees_begun run (committed run.core) (map m.keep (last_locals m setup run)) parcels view stand none ranked awaits (stage_dissolved run.core view.rank) begins agrees
    where
      finished : (is_gone (stage run.core view.rank) || has_finished_rounds (stage run.core view.rank)) ≡ true
      finished = all_at (λ s. is_gone s.stage || has_finished_rounds s.stage) run.core.standings view.rank nobody refl done

      begins : (how : How) (filled : Bool) → stage run.core view.rank ≡ Arrived how filled → HasLocal m good setup (sight run view.rank) view (Arrived how filled)
          → (local : L) × ((view.local ≡ Some local) × WillBegin m good setup false (sight (begun m setup (committed run.core) (map m.keep (last_locals m setup run)) parcels) view.rank) view.rank local)
      begins Done filled at (local, (its, has)) =
          (local, (its, kept_begins run parcels view.rank local (has.its ∙ ap Some (sym (has.here ∙ ap (λ b. if b then (m.parcel has.last).0 else has.last) unended)))))
      begins Broken filled at has = absurd (let e : false ≡ true = ap (λ s. is_gone s || has_finished_rounds s) (sym at) ∙ finished in cc)
      begins Memory filled at has = absurd (let e : false ≡ true = ap (λ s. is_gone s || has_finished_rounds s) (sym at) ∙ finished in cc)

  -- a restore
  agrees_restored : (run : Run L T) (view : RankView L) (stand : Stand) → view.rank < m.ranks setup → is_awaited (stage run.core view.rank) ≡ false
      → run.core.outcome ≡ None → good setup run.core.epoch 0 run.start → is_short_of_memory run.core ≡ false
      → Agrees m good setup (sight run view.rank) view stand
      → Agrees m good setup (sight (begun m setup (restored run.core) (restored_locals m setup run.core.epoch (λ r. lives (stage run.core r)) run.start) []) view.rank) view stand
  unfolding dissolved
  agrees_restored run view stand ranked awaits none is_good fits agrees =
      agrees_begun run (restored run.core) (restored_locals m setup run.core.epoch (λ r. lives (stage run.core r)) run.start) [] view stand none ranked awaits (stage_dissolved run.core view.rank) begins agrees
    where
      begins : (how : How) (filled : Bool) → stage run.core view.rank ≡ Arrived how filled → HasLocal m good setup (sight run view.rank) view (Arrived how filled)
          → (local : L) × ((view.local ≡ Some local) × WillBegin m good setup true
          (sight (begun m setup (restored run.core) (restored_locals m setup run.core.epoch (λ r. lives (stage run.core r)) run.start) []) view.rank) view.rank local)
      begins Done filled at (local, (its, has)) =
          (local, (its, restored_begins run view.rank local is_good (ap lives at) (saved_done m good setup saves (sight run view.rank) view.rank local has)))
      begins Broken filled at (local, (its, has)) =
          (local, (its, restored_begins run view.rank local is_good (ap lives at) (saved_at m good setup saves (sight run view.rank) view.rank (place run view.rank) local has)))
      begins Memory filled at has = absurd (let e : true ≡ false = sym (ap is_short at) ∙ nobody_any is_short run.core refl fits view.rank in cc)

  -- a decision
  agrees_decided : (run : Run L T) (made : Decision) (view : RankView L) (stand : Stand) → view.rank < m.ranks setup → is_awaited (stage run.core view.rank) ≡ false
      → run.core.outcome ≡ None → good setup run.core.epoch 0 run.start → (made ≡ Commit → is_everyone_done run.core ≡ true) → (made ≡ Restore → is_short_of_memory run.core ≡ false)
      → Agrees m good setup (sight run view.rank) view stand → Agrees m good setup (sight (run_decided m setup run made) view.rank) view stand
  unfolding decided
  agrees_decided run (Lose home buddy) view stand ranked awaits none is_good all_done fits agrees = agrees_ended run (outcomes.Lost run.core.epoch.time home buddy) view stand awaits (λ finishes. absurd (cc)) agrees
  agrees_decided run WantMemory view stand ranked awaits none is_good all_done fits agrees = agrees_ended run outcomes.Memory view stand awaits (λ finishes. absurd (cc)) agrees
  agrees_decided run Commit view stand ranked awaits none is_good all_done fits agrees = at_end (run.core.epoch.target == run.core.steps) refl
    where
      at_end : (b : Bool) → (run.core.epoch.target == run.core.steps) ≡ b
          → Agrees m good setup (sight (if b then record run { core = if b then ended run.core outcomes.Finished else committed run.core }
          else begun m setup (if b then ended run.core outcomes.Finished else committed run.core) (map m.keep (last_locals m setup run)) run.parcels) view.rank) view stand
      at_end true ends = agrees_ended run outcomes.Finished view stand awaits
          (λ _. all_at (λ s. is_gone s.stage || has_finished_rounds s.stage) run.core.standings view.rank nobody refl (all_done refl)) agrees
      at_end false unended = agrees_committed run run.parcels view stand ranked awaits none (all_done refl) unended agrees
  agrees_decided run Restore view stand ranked awaits none is_good all_done fits agrees = agrees_restored run view stand ranked awaits none is_good (fits refl) agrees

  -- a restore is decided where nobody wants memory
  restore_fits : (state : State) → decision state ≡ Restore → is_short_of_memory state ≡ false
  unfolding decision
  restore_fits state restores = by_loss (first_lost state) restores
    where
      by_short : (b : Bool) → is_short_of_memory state ≡ b → (if b then WantMemory else (if is_everyone_done state then Commit else Restore)) ≡ Restore → is_short_of_memory state ≡ false
      by_short true short wants = absurd (cc)
      by_short false fits _ = fits

      by_loss : (lost : Option (ℕ × ℕ)) → decision_where lost state ≡ Restore → is_short_of_memory state ≡ false
      by_loss (Some pair) loses = absurd (cc)
      by_loss None other = by_short (is_short_of_memory state) refl other

  -- what agrees after an event, before any decision, agrees after the decision that it may bring
  pub agrees_settled : (run : Run L T) (event : Event) (view : RankView L) (stand : Stand) → view.rank < m.ranks setup → good setup run.core.epoch 0 run.start
      → Agrees m good setup (sight (run_happened m setup run event) view.rank) view stand → Agrees m good setup (sight (next_run m setup run event) view.rank) view stand
  unfolding next_run
  agrees_settled run event view stand ranked is_good agrees = by_event (may_decide event)
    where
      same : IsSameEpoch run.core (happened run.core event (will_be_filled m setup run (actor event)))
      same = same_epoch run.core event (will_be_filled m setup run (actor event))

      still_good : good setup (happened run.core event (will_be_filled m setup run (actor event))).epoch 0 run.start
      still_good = let P : Epoch → Type 0 = λ epoch. good setup epoch 0 run.start in subst P (sym same.epoch) is_good

      by_ripe : (b : Bool) → is_ripe (happened run.core event (will_be_filled m setup run (actor event))) ≡ b
          → Agrees m good setup (sight (if b then run_decided m setup (run_happened m setup run event) (decision (happened run.core event (will_be_filled m setup run (actor event)))) else run_happened m setup run event) view.rank) view stand
      by_ripe false unripe = agrees
      by_ripe true ripe = agrees_decided (run_happened m setup run event) (decision (happened run.core event (will_be_filled m setup run (actor event)))) view stand ranked
          (nobody_any is_awaited (happened run.core event (will_be_filled m setup run (actor event))) refl
          (not-true _ (and_parts (not (is_some (happened run.core event (will_be_filled m setup run (actor event))).outcome)) _ ripe).1) view.rank)
          (running_where_ripe (happened run.core event (will_be_filled m setup run (actor event))) ripe)
          still_good
          (commit_when_done (happened run.core event (will_be_filled m setup run (actor event))))
          (restore_fits (happened run.core event (will_be_filled m setup run (actor event))))
          agrees

      by_event : (b : Bool) → Agrees m good setup (sight (if b then run_settled m setup (run_happened m setup run event) else run_happened m setup run event) view.rank) view stand
      by_event true = by_ripe (is_ripe (happened run.core event (will_be_filled m setup run (actor event)))) refl
      by_event false = agrees

  -- another rank's event, before any decision, keeps a rank's account
  pub agrees_happened : (run : Run L T) (event : Event) (view : RankView L) (stand : Stand) → is_legal run.core event (place run (actor event)) ≡ true → view.rank ≢ actor event
      → Agrees m good setup (sight run view.rank) view stand → Agrees m good setup (sight (run_happened m setup run event) view.rank) view stand
  agrees_happened run event view stand legal differs agrees =
      let P : Sight L → Type 0 = λ seen. Agrees m good setup seen view stand in
      subst P (sym (same_sight m good setup run event view.rank (step_of run.core event (place run (actor event)) (will_be_filled m setup run (actor event)) legal) differs)) agrees

  -- and so it does with the decision that it may bring
  pub agrees_other : (run : Run L T) (event : Event) (view : RankView L) (stand : Stand) → view.rank < m.ranks setup → good setup run.core.epoch 0 run.start
      → is_legal run.core event (place run (actor event)) ≡ true → view.rank ≢ actor event
      → Agrees m good setup (sight run view.rank) view stand → Agrees m good setup (sight (next_run m setup run event) view.rank) view stand
  agrees_other run event view stand ranked is_good legal differs agrees =
      agrees_settled run event view stand ranked is_good (agrees_happened run event view stand legal differs agrees)
