-- Which ranks have failed after a turn.
use Rattle.std.proofs.Common.{◌≡◌, ◌≢◌, ℕ, ◌<◌, Bool, true, false, ◌&&◌, ◌||◌, not, List, [], ◌∷◌, ◌++◌, length, filter, arith, refl, sym, subst, ◌∙◌, ap, inl, inr}
use Rattle.std.specs.Prelude.{◌==◌, ◌⊎◌, slice_set}
use Rattle.std.specs.List.{range_with_len}
use Rattle.std.proofs.Math.ListN.{get_or}
use Rattle.std.proofs.Math.Bool.{and-true, and-false}
use Rattle.std.proofs.lemmas.Bool.{cases_eq, eq-eqb, ne_eqb, both_ways, and_parts}
use Rattle.std.proofs.lemmas.List.{get_or_default, get_or-set_same, get_or-set_other, length-set}
use Rattle.bf_buddy.specs.Members.{is_member, without}
use Rattle.bf_buddy.proofs.MemberLemmas.{member_filter, member_range}
use Rattle.bf_program.specs.declared.epoch.Epoch.{Epoch}
use Rattle.bf_program.specs.Meanings.{Meanings}
use Rattle.bf_program.specs.Laws.{KeepsGood, KeepsStored}
use Rattle.bf_core.specs.declared.event.Event.{Event}
use Rattle.bf_core.specs.declared.event.Event.TheVariants.{Send, Recv, Arrive, Leave, Die}
use Rattle.bf_core.specs.declared.event.How.TheVariants.{Done, Broken, Memory}
use Rattle.bf_core.specs.declared.place.Place.{Place}
use Rattle.bf_core.specs.declared.standing.Stage.{Stage}
use Rattle.bf_core.specs.declared.standing.Stage.TheVariants.{Running, Arrived, Leaving, Ended, Dead, Gone}
use Rattle.bf_core.specs.Stages.{is_running, is_done, goes_on, after_decision}
use Rattle.bf_core.specs.States.{State, stage, is_due}
use Rattle.bf_core.specs.Legal.{actor, is_memory, is_legal, IsOffered}
use Rattle.bf_core.specs.Next.{may_decide, happened, is_ripe, decision, settled, next}
use Rattle.bf_core.proofs.StageLemmas.{is_rank}
use Rattle.bf_core.proofs.SoundLemmas.{moved_stage, acting, active_of, in_list}
use Rattle.bf_core.proofs.ArrivalLemmas.{decided_stage}
use Rattle.bf_core.proofs.LawLemmas.{next_settles, ripe_decides, unripe_waits}
use Rattle.bf_world.specs.Runs.{place, will_be_filled, run_after, is_legal_in, is_journal}
use Rattle.bf_world.proofs.LawfulLemmas.{core_next}
use Rattle.bf_world.proofs.RunLemmas.{run_more}
use Rattle.bf_rank.specs.declared.stand.Stand.{Stand}
use Rattle.bf_rank.specs.declared.stand.Stand.TheVariants as stands
use Rattle.bf_rank.specs.declared.stand.Turn.{Turn}
use Rattle.bf_rank.specs.declared.stand.Turn.TheVariants as turns
use Rattle.bf_rank.specs.Ranks.{RankView, sight, Agrees, IsAt, IsTurn, IsOfferedSome, TookTurn, short_arrival, event_of_failed}
use Rattle.bf_drive.specs.Drives.{AreAt, AreFailed, Leads, Turned, GaveUp, Moved, Failed, Lacked, Waited, has_failed}
use Rattle.bf_drive.proofs.StayLemmas.{last_legal}
use Rattle.bf_drive.proofs.TookLemmas.{ended_offers_nothing}

-- whoever arrives or dies is in its rounds no more
stops : (state : State) (event : Event) (place : Place) (filled : Bool) → may_decide event ≡ true → is_legal state event place ≡ true
    → is_running (stage (happened state event filled) (actor event)) ≡ false
stops state (Send rank to blocks sum) place filled may legal = absurd (cc)
stops state (Recv rank peer) place filled may legal = absurd (cc)
stops state (Leave rank) place filled may legal = absurd (cc)
stops state (Arrive rank how) place filled may legal =
    ap is_running (moved_stage state rank (Arrived how (is_done how && filled)) (in_list state rank (acting state rank (active_of state rank how place legal)))).its
stops state (Die rank) place filled may legal =
    ap is_running (moved_stage state rank Dead (is_rank goes_on state rank refl (and_parts (goes_on (stage state rank)) _ legal).0)).its

stops_next : (state : State) (event : Event) (place : Place) (filled : Bool) → may_decide event ≡ true → is_legal state event place ≡ true
    → is_running (stage (next state event filled) (actor event)) ≡ false
stops_next state event place filled may legal =
    ap (λ s. is_running (stage s (actor event))) (next_settles state event filled may) ∙ by_ripe (is_ripe (happened state event filled)) refl
  where
    before : is_running (stage (happened state event filled) (actor event)) ≡ false
    before = stops state event place filled may legal

    rests : (s : Stage) → is_running s ≡ false → is_running (after_decision s) ≡ false
    rests Running runs = absurd (cc)
    rests (Arrived how filled) _ = refl
    rests Leaving _ = refl
    rests Ended _ = refl
    rests Dead _ = refl
    rests Gone _ = refl

    by_ripe : (b : Bool) → is_ripe (happened state event filled) ≡ b → is_running (stage (settled (happened state event filled)) (actor event)) ≡ false
    by_ripe true ripe =
        ap (λ s. is_running (stage s (actor event))) (ripe_decides (happened state event filled) ripe)
        ∙ ap is_running (decided_stage (happened state event filled) (decision (happened state event filled)) (actor event))
        ∙ rests (stage (happened state event filled) (actor event)) before
    by_ripe false unripe = ap (λ s. is_running (stage s (actor event))) (unripe_waits (happened state event filled) unripe) ∙ before

resting : (s : Stage) → goes_on s ≡ false → is_running s ≡ false
resting Running goes = absurd (cc)
resting (Arrived how filled) _ = refl
resting Leaving _ = refl
resting Ended _ = refl
resting Dead _ = refl
resting Gone _ = refl

stands_failed : (stand : Stand) → has_failed stand ≡ true → stand ≡ stands.Failed
stands_failed stands.Failed _ = refl
stands_failed stands.Opening other = absurd (cc)
stands_failed (stands.Placed at) other = absurd (cc)
stands_failed stands.Arrived other = absurd (cc)
stands_failed stands.Ended other = absurd (cc)

unfailed_stand : (stand : Stand) → has_failed stand ≡ false → stand ≡ stands.Failed → ⊥
unfailed_stand stand unfailed is = both_ways (has_failed stand) unfailed (ap has_failed is)

-- an arrival for want of memory is its rank's
its_arrival : (event : Event) (rank : ℕ) → is_memory event ≡ true → actor event ≡ rank → event ≡ short_arrival rank
its_arrival (Send sender to blocks sum) rank other its = absurd (cc)
its_arrival (Recv receiver peer) rank other its = absurd (cc)
its_arrival (Arrive who Done) rank other its = absurd (cc)
its_arrival (Arrive who Broken) rank other its = absurd (cc)
its_arrival (Arrive who Memory) rank _ its = ap (λ r. Arrive r Memory) its
its_arrival (Leave who) rank other its = absurd (cc)
its_arrival (Die who) rank other its = absurd (cc)

-- some ranks have failed, if only none
pub some_failed : {L : Type 0} (ranks : List (RankView L)) → (failed : List ℕ) × AreFailed failed ranks
some_failed [] = ([], λ rank default within. absurd (omega (arith, within)))
some_failed (view ∷ views) = (
  filter (λ r. has_failed (get_or (view ∷ views) r view).stand) (range_with_len 0 (length (view ∷ views))),
  λ rank default within.
      member_filter (λ r. has_failed (get_or (view ∷ views) r view).stand) (range_with_len 0 (length (view ∷ views))) rank
      ∙ ap (λ b. b && has_failed (get_or (view ∷ views) rank view).stand) (member_range 0 (length (view ∷ views)) rank (omega arith) (omega (arith, within)))
      ∙ ap (λ v. has_failed v.stand) (get_or_default (view ∷ views) rank view default within),
)

module _ {S L M T R : Type 0} (m : Meanings S L M T R) (good : S → Epoch → ℕ → List L → Type 0) (setup : S) where
  -- no rank has failed before the first event
  pub none_failed : (ranks : List (RankView L)) → AreAt m good setup [] ranks → AreFailed [] ranks
  none_failed ranks at rank default within = by_stand (get_or ranks rank default) (at.its rank default within).1
    where
      by_stand : (view : RankView L) → IsAt m good setup [] view → false ≡ has_failed view.stand
      by_stand view here = by_test (has_failed view.stand) refl
        where
          by_test : (b : Bool) → has_failed view.stand ≡ b → false ≡ has_failed view.stand
          by_test true fails = absurd (let e : false ≡ true = here.acted (stands_failed view.stand fails) in cc)
          by_test false unfailed = sym unfailed

module _ {S L M T R : Type 0} (m : Meanings S L M T R) (good : S → Epoch → ℕ → List L → Type 0) (setup : S)
    (goods : KeepsGood m good setup) (stores : KeepsStored m good setup) where
  module _ (rank : ℕ) (old new : List Event) (ranks : List (RankView L)) (default after : RankView L) (legal : is_journal m setup new ≡ true) (within : rank < length ranks)
      (its : after.rank ≡ rank) (at : IsAt m good setup new after) where
    -- these have failed once the rank stands elsewhere
    set_failed : (failed next : List ℕ) → AreFailed failed ranks → is_member next rank ≡ has_failed after.stand
        → ((other : ℕ) → other ≢ rank → is_member next other ≡ is_member failed other) → AreFailed next (slice_set ranks rank after)
    set_failed failed next are here others other any below = elim (cases_eq other rank) [
      | inl same ↦ ap (is_member next) same ∙ here
          ∙ sym (ap (λ r. has_failed (get_or (slice_set ranks rank after) r any).stand) same ∙ ap (λ v. has_failed v.stand) (get_or-set_same ranks rank after any within))
      | inr differs ↦ others other differs ∙ are other any (omega (arith, below, length-set ranks rank after))
          ∙ sym (ap (λ v. has_failed v.stand) (get_or-set_other ranks rank other after any differs))
    ]

    -- whoever has failed is in its rounds
    runs_where_failed : has_failed after.stand ≡ true → is_running (stage (run_after m setup new).core rank) ≡ true
    runs_where_failed fails =
        let P : Stand → Type 0 = Agrees m good setup (sight (run_after m setup new) after.rank) after in
        let agrees : Agrees m good setup (sight (run_after m setup new) after.rank) after stands.Failed = subst P (stands_failed after.stand fails) at.agrees in
        ap (λ r. is_running (stage (run_after m setup new).core r)) (sym its) ∙ ap is_running agrees.0

    unfailed : is_running (stage (run_after m setup new).core rank) ≡ false → has_failed after.stand ≡ false
    unfailed rests = by_test (has_failed after.stand) refl
      where
        by_test : (b : Bool) → has_failed after.stand ≡ b → has_failed after.stand ≡ false
        by_test true fails = absurd (both_ways _ rests (runs_where_failed fails))
        by_test false stays = stays

    stops_here : (event : Event) → new ≡ old ++ event ∷ [] → actor event ≡ rank → may_decide event ≡ true → is_running (stage (run_after m setup new).core rank) ≡ false
    unfolding is_legal_in
    stops_here event more whose may =
        let run = run_after m setup old in
        let J : List Event → Type 0 = λ j. is_journal m setup j ≡ true in
        let core_legal : is_legal run.core event (place run (actor event)) ≡ true =
        (and_parts (is_legal run.core event (place run (actor event))) _ (last_legal m setup old event (subst J more legal))).0 in
        ap (λ j. is_running (stage (run_after m setup j).core rank)) more
        ∙ ap (λ r. is_running (stage r.core rank)) (run_more m setup old event)
        ∙ ap (λ c. is_running (stage c rank)) (core_next m good setup goods stores run event)
        ∙ ap (λ r. is_running (stage (next run.core event (will_be_filled m setup run (actor event))) r)) (sym whose)
        ∙ stops_next run.core event (place run (actor event)) (will_be_filled m setup run (actor event)) may core_legal

    module _ (fails : (get_or ranks rank default).stand ≡ stands.Failed → new ≡ old ++ event_of_failed (is_due (run_after m setup old).core rank) rank ∷ [])
        (lacks : ((get_or ranks rank default).stand ≡ stands.Failed → ⊥) → new ≡ old ++ short_arrival rank ∷ [] → IsOfferedSome m good setup old rank)
        (turn : Turn) (took : TookTurn m good setup old new rank turn) (stays : turn ≡ turns.NotYet → after ≡ get_or ranks rank default) (failed : List ℕ) (are : AreFailed failed ranks) where
      abbrev Comes : Type 0
      Comes = (following : List ℕ) × (AreFailed following (slice_set ranks rank after)
          × Turned m good setup rank (record { journal = old; failed = failed }) (record { journal = new; failed = following }))

      gives_up : has_failed (get_or ranks rank default).stand ≡ true → Comes
      gives_up stood = (
        without failed rank,
        (
          set_failed failed (without failed rank) are (left ∙ sym (unfailed (by_due (is_due (run_after m setup old).core rank) more))) others,
          GaveUp (are rank default within ∙ stood) (ap (λ j. record { journal = j; failed = without failed rank }) more),
        ),
      )
        where
          more : new ≡ old ++ event_of_failed (is_due (run_after m setup old).core rank) rank ∷ []
          more = fails (stands_failed (get_or ranks rank default).stand stood)

          by_due : (due : Bool) → new ≡ old ++ event_of_failed due rank ∷ [] → is_running (stage (run_after m setup new).core rank) ≡ false
          by_due true dies = stops_here (Die rank) dies refl refl
          by_due false arrives = stops_here (Arrive rank Memory) arrives refl refl

          left : is_member (without failed rank) rank ≡ false
          left = member_filter (λ member. not (member == rank)) failed rank ∙ ap (λ b. is_member failed rank && not b) (eq-eqb rank rank refl) ∙ and-false (is_member failed rank)

          others : (other : ℕ) → other ≢ rank → is_member (without failed rank) other ≡ is_member failed other
          others other differs =
              member_filter (λ member. not (member == rank)) failed other ∙ ap (λ b. is_member failed other && not b) (ne_eqb other rank differs) ∙ and-true (is_member failed other)

      module _ (stood : has_failed (get_or ranks rank default).stand ≡ false) where
        before : is_member failed rank ≡ false
        before = are rank default within ∙ stood

        -- who has not failed
        still : has_failed after.stand ≡ false → AreFailed failed (slice_set ranks rank after)
        still unfails = set_failed failed failed are (before ∙ sym unfails) (λ _ _. refl)

        moves : (event : Event) → new ≡ old ++ event ∷ [] → IsTurn m good setup old rank event → Comes
        moves event more turn_is = by_offer turn_is.offered
          where
            by_stand : IsOffered (run_after m setup old).core rank (place (run_after m setup old) rank) event → (b : Bool) → has_failed after.stand ≡ b → Comes
            by_stand offered true fails_now = (
              rank ∷ failed,
              (
                set_failed failed (rank ∷ failed) are (ap (λ b. b || is_member failed rank) (eq-eqb rank rank refl) ∙ sym fails_now)
                    (λ other differs. ap (λ b. b || is_member failed other) (ne_eqb rank other (λ same. differs (sym same)))),
                Failed before event offered (runs_where_failed fails_now) (ap (λ j. record { journal = j; failed = rank ∷ failed }) more),
              ),
            )
            by_stand offered false unfails = (failed, (still unfails, Moved before event offered (ap (λ j. record { journal = j; failed = failed }) more)))

            by_offer : IsOffered (run_after m setup old).core rank (place (run_after m setup old) rank) event ⊎ (is_memory event ≡ true) → Comes
            by_offer (inl offered) = by_stand offered (has_failed after.stand) refl
            by_offer (inr wants) =
                let arrives : new ≡ old ++ short_arrival rank ∷ [] = more ∙ ap (λ e. old ++ e ∷ []) (its_arrival event rank wants turn_is.its) in (
                  failed,
                  (
                    still (unfailed (stops_here (Arrive rank Memory) arrives refl refl)),
                    Lacked before (lacks (unfailed_stand (get_or ranks rank default).stand stood) arrives) (ap (λ j. record { journal = j; failed = failed }) arrives),
                  ),
                )

        by_turn : (t : Turn) → turn ≡ t → TookTurn m good setup old new rank t → Comes
        by_turn turns.Moved is (goes, (event, (more, turn_is))) = moves event more turn_is
        by_turn turns.NotYet is (same, none) =
            (failed, (still (ap (λ v. has_failed v.stand) (stays is) ∙ stood), Waited before none (ap (λ j. record { journal = j; failed = failed }) same)))
        by_turn turns.Ended is (rests, inl same) =
            let P : List Event → Type 0 = λ j. goes_on (stage (run_after m setup j).core rank) ≡ false in (
              failed,
              (
                still (unfailed (resting (stage (run_after m setup new).core rank) rests)),
                Waited before (ended_offers_nothing m good setup old rank (subst P same rests)) (ap (λ j. record { journal = j; failed = failed }) same),
              ),
            )
        by_turn turns.Ended is (rests, inr (event, (more, turn_is))) = moves event more turn_is

      comes : Comes
      comes = by_test (has_failed (get_or ranks rank default).stand) refl
        where
          by_test : (b : Bool) → has_failed (get_or ranks rank default).stand ≡ b → Comes
          by_test true stood = gives_up stood
          by_test false stood = by_turn stood turn refl took

  -- a rank's turn leads from those that have failed before it to those that have failed after
  pub turn_leads : (rank whose : ℕ) (old new : List Event) (ranks : List (RankView L)) (default after : RankView L) (turn : Turn) → is_journal m setup new ≡ true → rank < length ranks
      → whose ≡ rank → after.rank ≡ whose → IsAt m good setup new after
      → ((get_or ranks rank default).stand ≡ stands.Failed → new ≡ old ++ event_of_failed (is_due (run_after m setup old).core whose) whose ∷ [])
      → (((get_or ranks rank default).stand ≡ stands.Failed → ⊥) → new ≡ old ++ short_arrival whose ∷ [] → IsOfferedSome m good setup old whose)
      → TookTurn m good setup old new whose turn → (turn ≡ turns.NotYet → after ≡ get_or ranks rank default)
      → Leads (Turned m good setup rank) old new ranks (slice_set ranks rank after)
  turn_leads rank whose old new ranks default after turn legal within same its at fails lacks took stays failed are =
      let P : ℕ → Type 0 = λ r. (get_or ranks rank default).stand ≡ stands.Failed → new ≡ old ++ event_of_failed (is_due (run_after m setup old).core r) r ∷ [] in
      let Q : ℕ → Type 0 = λ r. ((get_or ranks rank default).stand ≡ stands.Failed → ⊥) → new ≡ old ++ short_arrival r ∷ [] → IsOfferedSome m good setup old r in
      let R : ℕ → Type 0 = λ r. TookTurn m good setup old new r turn in
      comes rank old new ranks default after legal within (its ∙ same) at (subst P same fails) (subst Q same lacks) turn (subst R same took) stays failed are
