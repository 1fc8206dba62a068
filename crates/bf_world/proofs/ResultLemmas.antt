-- The parcels of every run that a journal tells.
use Rattle.std.proofs.Common.{◌≡◌, ◌≢◌, ℕ, ◌<◌, Bool, true, false, cond, ◌&&◌, ◌||◌, not, List, [], ◌∷◌, ◌++◌, map, filter, length, arith, refl, sym, subst, ◌∙◌, ap, inl, inr}
use Rattle.std.specs.Prelude.{◌==◌, IsPermutation, Option, Some, None, is_some, if◌then◌else◌}
use Rattle.std.specs.List.{flat_map, range_with_len}
use Rattle.std.proofs.lemmas.Bool.{cases_eq, eqb-true, eq-eqb, or_right, and_right, and_parts}
use Rattle.std.proofs.lemmas.List.{flat_map_more}
use Rattle.std.proofs.lemmas.List.Elements.{filter-append}
use Rattle.bf_buddy.specs.Members.{is_member, without}
use Rattle.bf_program.specs.declared.epoch.Epoch.{Epoch}
use Rattle.bf_program.specs.Meanings.{Meanings}
use Rattle.bf_program.specs.Laws.{KeepsLimits, KeepsGood, KeepsStored}
use Rattle.bf_program.specs.Restores.{restored_locals}
use Rattle.bf_core.specs.declared.decision.Decision.{Decision}
use Rattle.bf_core.specs.declared.decision.Decision.TheVariants.{Lose, WantMemory, Commit, Restore}
use Rattle.bf_core.specs.declared.event.Event.{Event}
use Rattle.bf_core.specs.declared.event.Event.TheVariants.{Send, Recv, Arrive, Leave, Die}
use Rattle.bf_core.specs.declared.event.How.TheVariants.{Done, Broken, Memory}
use Rattle.bf_core.specs.declared.outcome.Outcome.{Outcome}
use Rattle.bf_core.specs.declared.outcome.Outcome.TheVariants as outcomes
use Rattle.bf_core.specs.declared.standing.Stage.{Stage}
use Rattle.bf_core.specs.declared.standing.Stage.TheVariants.{Running, Arrived, Leaving, Ended, Dead, Gone}
use Rattle.bf_core.specs.Stages.{is_arrived, is_leaving, is_gone, has_finished_rounds, goes_on, lives, after_decision}
use Rattle.bf_core.specs.Places.{is_just, next_receive}
use Rattle.bf_core.specs.States.{State, stage, is_active, opening}
use Rattle.bf_core.specs.Legal.{is_legal, waits, actor}
use Rattle.bf_core.specs.Next.{with_stage, may_decide, happened, is_ripe, decision, decided, dissolved, ended, committed, restored}
use Rattle.bf_core.proofs.StageLemmas.{is_rank, stage_dissolved}
use Rattle.bf_core.proofs.SoundLemmas.{IsMoved, is_open, moved_stage, same_tests, acting, in_list, leaving_stage, not_gone, active_of, opening_fails}
use Rattle.bf_core.proofs.LawLemmas.{IsStep, step_of, IsSameEpoch, same_epoch, running_where_ripe, commit_needs_members}
use Rattle.bf_world.specs.Course.{local_at}
use Rattle.bf_world.specs.Results.{parcels_of}
use Rattle.bf_world.specs.Runs.{Run, place, begun, last_locals, will_be_filled, parcel_with, parcel_of, run_happened, run_decided, run_settled, next_run, is_legal_in, opening_run, run_from, is_legal_from, run_after, is_journal}
use Rattle.bf_world.proofs.MemberLemmas.{Apart, apart_range}
use Rattle.bf_world.proofs.OnceLemmas.{member_more, apart_more, member_without, apart_without, none_listed, same_gifts, gifts_of_seats}
use Rattle.bf_core.proofs.ListLemmas.{in_filtered}
use Rattle.bf_world.proofs.LawfulLemmas.{IsSteady, IsLawful, happened_steady, last_good, next_lawful, opening_lawful}
use Rattle.bf_world.proofs.RunLemmas.{ripe_next}

undone : (s : Stage) → is_arrived s ≡ false → has_finished_rounds s ≡ false
undone Running _ = refl
undone (Arrived how filled) still = absurd (cc)
undone Leaving _ = refl
undone Ended _ = refl
undone Dead _ = refl
undone Gone _ = refl

decided_undone : (s : Stage) → has_finished_rounds (after_decision s) ≡ false
decided_undone Running = refl
decided_undone (Arrived how filled) = refl
decided_undone Leaving = refl
decided_undone Ended = refl
decided_undone Dead = refl
decided_undone Gone = refl

stays_member : (s : Stage) → has_finished_rounds s ≡ true → is_gone s ≡ false
stays_member Running still = absurd (cc)
stays_member (Arrived how filled) _ = refl
stays_member Leaving still = absurd (cc)
stays_member Ended still = absurd (cc)
stays_member Dead still = absurd (cc)
stays_member Gone still = absurd (cc)

pub unopened : (s : Stage) → is_open s ≡ false → is_arrived s ≡ false
unopened Running still = absurd (cc)
unopened (Arrived how filled) still = absurd (cc)
unopened Leaving _ = refl
unopened Ended _ = refl
unopened Dead _ = refl
unopened Gone _ = refl

or_false : (a b : Bool) → b ≡ false → (a || b) ≡ a
or_false true b none = refl
or_false false b none = none

differs_back : (a b : ℕ) → (a ≢ b) → (b == a) ≡ false
differs_back a b differs = by_test (b == a) refl
  where
    by_test : (c : Bool) → (b == a) ≡ c → c ≡ false
    by_test true same = absurd (differs (sym (eqb-true b a same)))
    by_test false _ = refl

module _ {S L M T R : Type 0} (m : Meanings S L M T R) (setup : S) where
  -- the parcel of a member once all rounds of an epoch are done
  abbrev pub gives : Epoch → List L → ℕ → List (ℕ × T)
  gives epoch start rank = parcel_with m setup rank (local_at m setup epoch start rank (m.rounds setup epoch))

  -- while a run goes on, those who have arrived done in the last epoch have given, each once
  pub record IsGiven (run : Run L T) : Type 0 where
    pub arrivals : List ℕ
    pub apart : Apart arrivals
    pub who : (rank : ℕ) → is_member arrivals rank ≡ (has_finished_rounds (stage run.core rank) && (run.core.epoch.target == run.core.steps))
    pub parcels_are : run.parcels ≡ flat_map (gives run.core.epoch run.start) arrivals

  -- no more has arrived done than before
  given_stays : (run after : Run L T) (rank : ℕ) (to : Stage) → IsMoved run.core after.core rank to
      → has_finished_rounds to ≡ has_finished_rounds (stage run.core rank) → after.core.epoch ≡ run.core.epoch → after.core.steps ≡ run.core.steps
      → after.start ≡ run.start → after.parcels ≡ run.parcels → IsGiven run → IsGiven after
  given_stays run after rank to moved same epochs steps starts parcels given = record {
    arrivals = given.arrivals;
    apart = given.apart;
    who = λ r. given.who r
        ∙ ap (λ b. b && (run.core.epoch.target == run.core.steps)) (sym (same_tests has_finished_rounds run.core after.core rank to moved same r))
        ∙ ap (λ e. has_finished_rounds (stage after.core r) && (e.target == run.core.steps)) (sym epochs)
        ∙ ap (λ n. has_finished_rounds (stage after.core r) && (after.core.epoch.target == n)) (sym steps);
    parcels_are = parcels ∙ given.parcels_are
        ∙ ap (λ e. flat_map (gives e run.start) given.arrivals) (sym epochs)
        ∙ ap (λ s. flat_map (gives after.core.epoch s) given.arrivals) (sym starts);
  }

  -- one more has arrived done
  given_more : (run : Run L T) (rank : ℕ) (filled : Bool) (parcels : List (ℕ × T)) → stage run.core rank ≡ Running → (run.core.epoch.target == run.core.steps) ≡ true
      → parcels ≡ run.parcels ++ gives run.core.epoch run.start rank → IsGiven run
      → IsGiven (record { core = with_stage run.core rank (Arrived Done filled); start = run.start; places = run.places; parcels = parcels })
  given_more run rank filled parcels runs ends more given = record {
    arrivals = given.arrivals ++ rank ∷ [];
    apart = apart_more given.arrivals rank given.apart out;
    who = λ r. member_more given.arrivals rank r ∙ (elim (cases_eq r rank) [
      | inl e ↦
          let P : ℕ → Type 0 = λ y. (is_member given.arrivals y || (rank == y))
          ≡ (has_finished_rounds (stage (with_stage run.core rank (Arrived Done filled)) y) && (run.core.epoch.target == run.core.steps)) in
          subst P (sym e) (or_right _ _ (eq-eqb rank rank refl) ∙ sym (ap (λ s. has_finished_rounds s && (run.core.epoch.target == run.core.steps)) moved.its ∙ ends))
      | inr differs ↦
          or_false _ _ (differs_back r rank differs) ∙ given.who r
          ∙ ap (λ s. has_finished_rounds s && (run.core.epoch.target == run.core.steps)) (sym (moved.others r differs))
    ]);
    parcels_are = more ∙ ap (λ xs. xs ++ gives run.core.epoch run.start rank) given.parcels_are ∙ flat_map_more (gives run.core.epoch run.start) [] given.arrivals rank;
  }
    where
      moved : IsMoved run.core (with_stage run.core rank (Arrived Done filled)) rank (Arrived Done filled)
      moved = moved_stage run.core rank (Arrived Done filled) (in_list run.core rank runs)

      out : is_member given.arrivals rank ≡ false
      out = given.who rank ∙ ap (λ s. has_finished_rounds s && (run.core.epoch.target == run.core.steps)) runs

  -- whoever has arrived done before the last epoch gives nothing
  given_none : (run : Run L T) (rank : ℕ) (to : Stage) → rank < length run.core.standings → (run.core.epoch.target == run.core.steps) ≡ false → IsGiven run
      → IsGiven (record { core = with_stage run.core rank to; start = run.start; places = run.places; parcels = run.parcels })
  given_none run rank to within unended given = record {
    arrivals = given.arrivals;
    apart = given.apart;
    who = λ r. given.who r ∙ and_right _ _ unended ∙ sym (and_right _ _ unended);
    parcels_are = given.parcels_are;
  }

  parcel_dropped : (rank r : ℕ) (o : Option L) → filter (λ parcel. not (parcel.0 == rank)) (parcel_with m setup r o) ≡ cond (not (r == rank)) (parcel_with m setup r o) []
  parcel_dropped rank r (Some local) = refl
  parcel_dropped rank r None = sym (by_test (not (r == rank)))
    where
      by_test : (b : Bool) → cond {A = List (ℕ × T)} b [] [] ≡ []
      by_test true = refl
      by_test false = refl

  dropped : (epoch : Epoch) (start : List L) (arrivals : List ℕ) (rank : ℕ)
      → filter (λ parcel. not (parcel.0 == rank)) (flat_map (gives epoch start) arrivals) ≡ flat_map (gives epoch start) (without arrivals rank)
  dropped epoch start [] rank = refl
  dropped epoch start (x ∷ xs) rank =
      filter-append (λ parcel. not (parcel.0 == rank)) (gives epoch start x) (flat_map (gives epoch start) xs)
      ∙ ap (λ ys. ys ++ filter (λ parcel. not (parcel.0 == rank)) (flat_map (gives epoch start) xs)) (parcel_dropped rank x (local_at m setup epoch start x (m.rounds setup epoch)))
      ∙ ap (λ ys. cond (not (x == rank)) (gives epoch start x) [] ++ ys) (dropped epoch start xs rank)
      ∙ by_test (not (x == rank))
    where
      by_test : (b : Bool) → cond b (gives epoch start x) [] ++ flat_map (gives epoch start) (without xs rank)
          ≡ flat_map (gives epoch start) (cond b (x ∷ without xs rank) (without xs rank))
      by_test true = refl
      by_test false = refl

  -- one that had arrived dies
  given_less : (run : Run L T) (rank : ℕ) → rank < length run.core.standings → IsGiven run
      → IsGiven (record { core = with_stage run.core rank Dead; start = run.start; places = run.places; parcels = filter (λ parcel. not (parcel.0 == rank)) run.parcels })
  given_less run rank within given = record {
    arrivals = without given.arrivals rank;
    apart = apart_without given.arrivals rank given.apart;
    who = λ r. member_without given.arrivals rank r ∙ (elim (cases_eq r rank) [
      | inl e ↦
          let P : ℕ → Type 0 = λ y. cond (rank == y) false (is_member given.arrivals y)
          ≡ (has_finished_rounds (stage (with_stage run.core rank Dead) y) && (run.core.epoch.target == run.core.steps)) in
          subst P (sym e) (ap (λ b. cond b false (is_member given.arrivals rank)) (eq-eqb rank rank refl)
          ∙ sym (ap (λ s. has_finished_rounds s && (run.core.epoch.target == run.core.steps)) moved.its))
      | inr differs ↦
          ap (λ b. cond b false (is_member given.arrivals r)) (differs_back r rank differs) ∙ given.who r
          ∙ ap (λ s. has_finished_rounds s && (run.core.epoch.target == run.core.steps)) (sym (moved.others r differs))
    ]);
    parcels_are = ap (filter (λ parcel. not (parcel.0 == rank))) given.parcels_are ∙ dropped run.core.epoch run.start given.arrivals rank;
  }
    where
      moved : IsMoved run.core (with_stage run.core rank Dead) rank Dead
      moved = moved_stage run.core rank Dead within

  -- after an event, before any decision
  pub happened_given : (run : Run L T) (event : Event) → is_legal run.core event (place run (actor event)) ≡ true → IsGiven run → IsGiven (run_happened m setup run event)
  unfolding parcel_of last_locals
  happened_given run (Send rank to blocks sum) legal given =
      let runs : stage run.core rank ≡ Running = acting run.core rank (and_parts (is_active run.core rank) _ legal).0 in
      let moved : IsMoved run.core (with_stage run.core rank (stage run.core rank)) rank (stage run.core rank) = moved_stage run.core rank (stage run.core rank) (in_list run.core rank runs) in
      given_stays run (run_happened m setup run (Send rank to blocks sum)) rank (stage run.core rank) (record { its = moved.its; others = moved.others }) refl refl refl refl refl given
  happened_given run (Recv rank peer) legal given =
      let runs : stage run.core rank ≡ Running =
      acting run.core rank (and_parts (is_active run.core rank) _ (and_parts (is_active run.core rank && is_just (next_receive (place run rank)) peer) _ legal).0).0 in
      let moved : IsMoved run.core (with_stage run.core rank (stage run.core rank)) rank (stage run.core rank) = moved_stage run.core rank (stage run.core rank) (in_list run.core rank runs) in
      given_stays run (run_happened m setup run (Recv rank peer)) rank (stage run.core rank) (record { its = moved.its; others = moved.others }) refl refl refl refl refl given
  happened_given run (Arrive rank Done) legal given = by_end (run.core.epoch.target == run.core.steps) refl
    where
      runs : stage run.core rank ≡ Running
      runs = acting run.core rank (and_parts (is_active run.core rank) _ legal).0

      by_end : (b : Bool) → (run.core.epoch.target == run.core.steps) ≡ b
          → IsGiven (record {
            core = with_stage run.core rank (Arrived Done (will_be_filled m setup run rank));
            start = run.start;
            places = run.places;
            parcels = if b then run.parcels ++ parcel_of m setup run rank else run.parcels;
          })
      by_end true ends = given_more run rank (will_be_filled m setup run rank) _ runs ends refl given
      by_end false unended = given_none run rank (Arrived Done (will_be_filled m setup run rank)) (in_list run.core rank runs) unended given
  happened_given run (Arrive rank Broken) legal given =
      let runs : stage run.core rank ≡ Running =
      acting run.core rank (and_parts (is_active run.core rank) _ (and_parts (is_active run.core rank && waits run.core rank (place run rank)) _ legal).0).0 in
      given_stays run (run_happened m setup run (Arrive rank Broken)) rank (Arrived Broken false) (moved_stage run.core rank (Arrived Broken false) (in_list run.core rank runs))
      (sym (ap has_finished_rounds runs)) refl refl refl refl given
  happened_given run (Arrive rank Memory) legal given =
      let runs : stage run.core rank ≡ Running = acting run.core rank legal in
      given_stays run (run_happened m setup run (Arrive rank Memory)) rank (Arrived Memory false) (moved_stage run.core rank (Arrived Memory false) (in_list run.core rank runs))
      (sym (ap has_finished_rounds runs)) refl refl refl refl given
  happened_given run (Leave rank) legal given =
      let leaving : stage run.core rank ≡ Leaving = leaving_stage run.core rank (and_parts (is_leaving (stage run.core rank)) _ legal).0 in
      given_stays run (run_happened m setup run (Leave rank)) rank (if is_some run.core.outcome then Ended else Running)
      (moved_stage run.core rank _ (is_rank is_leaving run.core rank refl (ap is_leaving leaving)))
      (by_end (is_some run.core.outcome) ∙ sym (ap has_finished_rounds leaving)) refl refl refl refl given
    where
      by_end : (b : Bool) → has_finished_rounds (if b then Ended else Running) ≡ false
      by_end true = refl
      by_end false = refl
  happened_given run (Die rank) legal given = by_arrival (is_arrived (stage run.core rank)) refl
    where
      within : rank < length run.core.standings
      within = is_rank goes_on run.core rank refl (and_parts (goes_on (stage run.core rank)) _ legal).0

      after : Bool → Run L T
      after b = record {
        core = with_stage run.core rank Dead;
        start = run.start;
        places = run.places;
        parcels = if b then filter (λ parcel. not (parcel.0 == rank)) run.parcels else run.parcels;
      }

      by_arrival : (b : Bool) → is_arrived (stage run.core rank) ≡ b → IsGiven (after b)
      by_arrival true _ = given_less run rank within given
      by_arrival false unarrived = given_stays run (after false) rank Dead (moved_stage run.core rank Dead within)
          (sym (undone (stage run.core rank) unarrived)) refl refl refl refl given

module _ {S L M T R : Type 0} (m : Meanings S L M T R) (good : S → Epoch → ℕ → List L → Type 0) (setup : S)
    (goods : KeepsGood m good setup) (stores : KeepsStored m good setup) where
  -- what holds of the parcels of every run that a journal tells
  pub record IsResult (run : Run L T) : Type 0 where
    pub going : run.core.outcome ≡ None → IsGiven m setup run
    pub at_end : run.core.outcome ≡ Some outcomes.Finished → run.core.epoch.target ≡ run.core.steps
    pub finished : run.core.outcome ≡ Some outcomes.Finished → IsPermutation (parcels_of m run.core.epoch.members (last_locals m setup run)) run.parcels

  begun_result : (run : Run L T) (core : State) (start : List L) (parcels : List (ℕ × T)) → core.outcome ≡ None → parcels ≡ []
      → ((rank : ℕ) → stage core rank ≡ after_decision (stage run.core rank)) → IsResult (begun m setup core start parcels)
  begun_result run core start parcels none nothing stages = record {
    going = λ _. record {
      arrivals = [];
      apart = tt;
      who = λ r. sym (ap (λ s. has_finished_rounds s && (core.epoch.target == core.steps)) (stages r)
          ∙ ap (λ b. b && (core.epoch.target == core.steps)) (decided_undone (stage run.core r)));
      parcels_are = nothing;
    };
    at_end = λ ends. absurd (let e : None ≡ Some outcomes.Finished = sym none ∙ ends in cc);
    finished = λ ends. absurd (let e : None ≡ Some outcomes.Finished = sym none ∙ ends in cc);
  }

  -- before the last epoch nothing is given
  nothing_given : (run : Run L T) → IsGiven m setup run → (run.core.epoch.target == run.core.steps) ≡ false → run.parcels ≡ []
  nothing_given run given unended =
      given.parcels_are ∙ ap (flat_map (gives m setup run.core.epoch run.start)) (none_listed given.arrivals (λ r. given.who r ∙ and_right _ _ unended))

  -- where all members have arrived done in the last epoch, each has given
  all_given : (run : Run L T) → IsGiven m setup run → IsSteady m good setup run → (run.core.epoch.target == run.core.steps) ≡ true → Apart run.core.epoch.members
      → ((rank : ℕ) → is_member run.core.epoch.members rank ≡ has_finished_rounds (stage run.core rank))
      → IsPermutation (parcels_of m run.core.epoch.members (last_locals m setup run)) run.parcels
  unfolding last_locals
  all_given run given steady ends apart all_done =
      let P : List (ℕ × T) → Type 0 = λ xs. IsPermutation xs run.parcels in
      let Q : List (ℕ × T) → Type 0 = λ ys. IsPermutation (flat_map (gives m setup run.core.epoch run.start) run.core.epoch.members) ys in
      subst P (gifts_of_seats (λ seat. (seat.0, (m.parcel seat.1).1)) (parcel_with m setup) (λ rank local. refl) run.core.epoch.members (last_locals m setup run) apart
      (goods.one_each run.core.epoch (m.rounds setup run.core.epoch) (last_locals m setup run) (last_good m good setup goods stores run steady)))
      (subst Q (sym given.parcels_are) (same_gifts (gives m setup run.core.epoch run.start) run.core.epoch.members given.arrivals apart given.apart
      (λ r. all_done r ∙ both (has_finished_rounds (stage run.core r)) _ ends ∙ sym (given.who r))))
    where
      both : (a b : Bool) → b ≡ true → a ≡ (a && b)
      both true b holds = sym holds
      both false b holds = refl

  decided_result : (run : Run L T) (made : Decision) → IsGiven m setup run → IsSteady m good setup run → run.core.outcome ≡ None → Apart run.core.epoch.members
      → (made ≡ Commit → (rank : ℕ) → is_member run.core.epoch.members rank ≡ has_finished_rounds (stage run.core rank))
      → IsResult (run_decided m setup run made)
  unfolding decided dissolved last_locals
  decided_result run (Lose home buddy) given steady none apart all_done = record { going = λ none. absurd (cc); at_end = λ ends. absurd (cc); finished = λ ends. absurd (cc) }
  decided_result run WantMemory given steady none apart all_done = record { going = λ none. absurd (cc); at_end = λ ends. absurd (cc); finished = λ ends. absurd (cc) }
  decided_result run Commit given steady none apart all_done = at_end (run.core.epoch.target == run.core.steps) refl
    where
      at_end : (b : Bool) → (run.core.epoch.target == run.core.steps) ≡ b
          → IsResult (if b then record run { core = if b then ended run.core outcomes.Finished else committed run.core }
          else begun m setup (if b then ended run.core outcomes.Finished else committed run.core) (map m.keep (last_locals m setup run)) run.parcels)
      at_end true ends = record {
        going = λ none. absurd (cc);
        at_end = λ _. eqb-true run.core.epoch.target run.core.steps ends;
        finished = λ _. all_given run given steady ends apart (all_done refl);
      }
      at_end false unended = begun_result run (committed run.core) (map m.keep (last_locals m setup run)) run.parcels none (nothing_given run given unended) (stage_dissolved run.core)
  decided_result run Restore given steady none apart all_done =
      begun_result run (restored run.core) (restored_locals m setup run.core.epoch (λ rank. lives (stage run.core rank)) run.start) [] none refl (stage_dissolved run.core)

  -- who has arrived done is a member
  pub done_members : (run : Run L T) (event : Event) → IsLawful m good setup goods stores run → is_legal run.core event (place run (actor event)) ≡ true
      → is_ripe (run_happened m setup run event).core ≡ true → decision (run_happened m setup run event).core ≡ Commit
      → (rank : ℕ) → is_member (run_happened m setup run event).core.epoch.members rank ≡ has_finished_rounds (stage (run_happened m setup run event).core rank)
  done_members run event lawful legal ripe commits rank =
      by_done (has_finished_rounds (stage later rank)) refl (is_member later.epoch.members rank) refl
    where
      later : State
      later = happened run.core event (will_be_filled m setup run (actor event))

      same : IsSameEpoch run.core (happened run.core event (will_be_filled m setup run (actor event)))
      same = same_epoch run.core event (will_be_filled m setup run (actor event))

      step : IsStep run.core event (will_be_filled m setup run (actor event))
      step = step_of run.core event (place run (actor event)) (will_be_filled m setup run (actor event)) legal

      members : later.epoch.members ≡ filter (λ r. not (is_gone (stage run.core r))) (range_with_len 0 run.core.ranks)
      members = ap (λ epoch. epoch.members) same.epoch ∙ lawful.sound.members (sym same.outcome ∙ running_where_ripe later ripe)

      here : is_gone (stage later rank) ≡ false → is_gone (stage run.core rank) ≡ false
      here remains = sym (same_tests is_gone run.core later (actor event) step.to step.moved (step.stays ∙ sym (not_gone (stage run.core (actor event)) step.went)) rank) ∙ remains

      in_range : is_gone (stage run.core rank) ≡ false → rank < run.core.ranks
      in_range remains = omega (arith, is_rank (λ s. not (is_gone s)) run.core rank refl (ap not remains), lawful.sound.size)

      is_in : is_gone (stage run.core rank) ≡ false → is_member later.epoch.members rank ≡ true
      is_in remains = ap (λ xs. is_member xs rank) members
          ∙ in_filtered (λ r. not (is_gone (stage run.core r))) 0 run.core.ranks rank (omega arith) (omega (arith, in_range remains)) (ap not remains)

      finishes : is_member later.epoch.members rank ≡ true → has_finished_rounds (stage later rank) ≡ true
      finishes member = commit_needs_members run.core event (place run (actor event)) (will_be_filled m setup run (actor event)) lawful.sound legal ripe commits rank
          (ap (λ epoch. is_member epoch.members rank) (sym same.epoch) ∙ member)

      by_done : (b : Bool) → has_finished_rounds (stage later rank) ≡ b → (c : Bool) → is_member later.epoch.members rank ≡ c → c ≡ b
      by_done true done c is = sym is ∙ is_in (here (stays_member (stage later rank) done))
      by_done false undone true is = absurd (let e : true ≡ false = sym (finishes is) ∙ undone in cc)
      by_done false undone false is = refl

  pub unripe_next : (run : Run L T) (event : Event) → (may_decide event && is_ripe (run_happened m setup run event).core) ≡ false → next_run m setup run event ≡ run_happened m setup run event
  unfolding next_run
  unripe_next run event unripe = by_event (may_decide event) unripe
    where
      by_ripe : (b : Bool) → b ≡ false → (if b then run_decided m setup (run_happened m setup run event) (decision (run_happened m setup run event).core) else run_happened m setup run event)
          ≡ run_happened m setup run event
      by_ripe true ripe = absurd (cc)
      by_ripe false _ = refl

      by_event : (b : Bool) → (b && is_ripe (run_happened m setup run event).core) ≡ false
          → (if b then run_settled m setup (run_happened m setup run event) else run_happened m setup run event) ≡ run_happened m setup run event
      by_event true waits = by_ripe (is_ripe (run_happened m setup run event).core) waits
      by_event false _ = refl

  going_result : (run : Run L T) → run.core.outcome ≡ None → IsGiven m setup run → IsResult run
  going_result run none given = record {
    going = λ _. given;
    at_end = λ ends. absurd (let e : None ≡ Some outcomes.Finished = sym none ∙ ends in cc);
    finished = λ ends. absurd (let e : None ≡ Some outcomes.Finished = sym none ∙ ends in cc);
  }

  -- after an end no parcel comes or goes
  over_result : (run : Run L T) (event : Event) (outcome : Outcome) → IsLawful m good setup goods stores run → is_legal run.core event (place run (actor event)) ≡ true
      → run.core.outcome ≡ Some outcome → IsResult run → IsResult (run_happened m setup run event)
  unfolding last_locals
  over_result run (Send rank to blocks sum) outcome lawful legal ends result =
      absurd (let e : true ≡ false = sym (ap is_open (acting run.core rank (and_parts (is_active run.core rank) _ legal).0)) ∙ lawful.sound.over outcome ends rank in cc)
  over_result run (Recv rank peer) outcome lawful legal ends result =
      absurd (let e : true ≡ false = sym (ap is_open (acting run.core rank (and_parts (is_active run.core rank) _
      (and_parts (is_active run.core rank && is_just (next_receive (place run rank)) peer) _ legal).0).0)) ∙ lawful.sound.over outcome ends rank in cc)
  over_result run (Arrive rank how) outcome lawful legal ends result =
      absurd (let e : true ≡ false = sym (ap is_open (acting run.core rank (active_of run.core rank how (place run rank) legal))) ∙ lawful.sound.over outcome ends rank in cc)
  over_result run (Leave rank) outcome lawful legal ends result = record {
    going = λ none. absurd (let e : Some outcome ≡ None = sym ends ∙ none in cc);
    at_end = result.at_end;
    finished = result.finished;
  }
  over_result run (Die rank) outcome lawful legal ends result = record {
    going = λ none. absurd (let e : Some outcome ≡ None = sym ends ∙ none in cc);
    at_end = result.at_end;
    finished = λ finishes.
        let P : List (ℕ × T) → Type 0 = λ xs. IsPermutation (parcels_of m run.core.epoch.members (last_locals m setup run)) xs in
        subst P (ap (λ b. if b then filter (λ parcel. not (parcel.0 == rank)) run.parcels else run.parcels)
        (sym (unopened (stage run.core rank) (lawful.sound.over outcome ends rank)))) (result.finished finishes);
  }

  pub next_result : (run : Run L T) (event : Event) → IsLawful m good setup goods stores run → is_legal_in m setup run event ≡ true → IsResult run → IsResult (next_run m setup run event)
  unfolding is_legal_in
  next_result run event lawful legal result = by_outcome run.core.outcome refl
    where
      core_legal : is_legal run.core event (place run (actor event)) ≡ true
      core_legal = (and_parts (is_legal run.core event (place run (actor event))) _ legal).0

      same : IsSameEpoch run.core (happened run.core event (will_be_filled m setup run (actor event)))
      same = same_epoch run.core event (will_be_filled m setup run (actor event))

      quiet : (may_decide event && is_ripe (run_happened m setup run event).core) ≡ false → IsResult (run_happened m setup run event) → IsResult (next_run m setup run event)
      quiet unripe is = subst IsResult (sym (unripe_next run event unripe)) is

      not_ripe : (a b : Bool) → (o : Option Outcome) (outcome : Outcome) → o ≡ Some outcome → (a && (not (is_some o) && b)) ≡ false
      not_ripe true b (Some other) outcome _ = refl
      not_ripe false b (Some other) outcome _ = refl
      not_ripe a b None outcome ends = absurd (cc)

      by_ripe : run.core.outcome ≡ None → (a : Bool) → may_decide event ≡ a → (b : Bool) → is_ripe (run_happened m setup run event).core ≡ b → IsResult (next_run m setup run event)
      by_ripe none false may b ripe = quiet (ap (λ c. c && is_ripe (run_happened m setup run event).core) may)
          (going_result (run_happened m setup run event) (same.outcome ∙ none) (happened_given m setup run event core_legal (result.going none)))
      by_ripe none true may false unripe = quiet (and_right _ _ unripe)
          (going_result (run_happened m setup run event) (same.outcome ∙ none) (happened_given m setup run event core_legal (result.going none)))
      by_ripe none true may true ripe =
          let members : (happened run.core event (will_be_filled m setup run (actor event))).epoch.members
          ≡ filter (λ rank. not (is_gone (stage run.core rank))) (range_with_len 0 run.core.ranks) =
          ap (λ epoch. epoch.members) same.epoch ∙ lawful.sound.members none in
          subst IsResult (sym (ripe_next m setup run event may ripe))
          (decided_result (run_happened m setup run event) (decision (run_happened m setup run event).core)
          (happened_given m setup run event core_legal (result.going none))
          (happened_steady m good setup run event lawful.steady lawful.sound core_legal)
          (same.outcome ∙ none)
          (subst Apart (sym members) (apart_range (λ rank. not (is_gone (stage run.core rank))) 0 run.core.ranks))
          (done_members run event lawful core_legal ripe))

      by_outcome : (o : Option Outcome) → run.core.outcome ≡ o → IsResult (next_run m setup run event)
      by_outcome (Some outcome) ends = quiet (not_ripe (may_decide event) _ (run_happened m setup run event).core.outcome outcome (same.outcome ∙ ends))
          (over_result run event outcome lawful core_legal ends result)
      by_outcome None none = by_ripe none (may_decide event) refl (is_ripe (run_happened m setup run event).core) refl

  pub opening_result : IsResult (opening_run m setup)
  unfolding opening_run opening
  opening_result = going_result (opening_run m setup) refl (record {
    arrivals = [];
    apart = tt;
    who = λ r. sym (ap (λ b. b && ((opening_run m setup).core.epoch.target == (opening_run m setup).core.steps))
        (opening_fails has_finished_rounds refl refl (m.ranks setup) (m.laid setup) (m.deaths setup) (m.shift setup) (m.steps setup) (m.interval setup) r));
    parcels_are = refl;
  })

  from_result : (run : Run L T) (journal : List Event) → IsLawful m good setup goods stores run → is_legal_from m setup run journal ≡ true → IsResult run → IsResult (run_from m setup run journal)
  from_result run [] lawful legal result = result
  from_result run (event ∷ events) lawful legal result =
      let first : is_legal_in m setup run event ≡ true = (and_parts (is_legal_in m setup run event) _ legal).0 in
      from_result (next_run m setup run event) events (next_lawful m good setup goods stores run event lawful first)
      (and_parts (is_legal_in m setup run event) _ legal).1 (next_result run event lawful first result)

  pub after_result : KeepsLimits m setup → (journal : List Event) → is_journal m setup journal ≡ true → IsResult (run_after m setup journal)
  unfolding run_after is_journal
  after_result limits journal legal = from_result (opening_run m setup) journal (opening_lawful m good setup goods stores limits) legal opening_result
