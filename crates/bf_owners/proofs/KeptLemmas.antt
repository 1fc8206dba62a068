-- Who must leave into an epoch stands where it begins, and whose parcels there are.
use Rattle.std.proofs.Common.{◌≡◌, ◌≢◌, ℕ, ◌+◌, ◌<◌, Bool, true, false, ◌&&◌, not, List, [], ◌∷◌, map, filter, arith, refl, sym, subst, ◌∙◌, ap}
use Rattle.std.specs.Prelude.{◌==◌, Option, Some, None, is_some, if◌then◌else◌}
use Rattle.std.specs.List.{flat_map, range_with_len}
use Rattle.std.proofs.lemmas.Bool.{and_parts, and_from, and_right}
use Rattle.std.proofs.lemmas.List.{get_or-set_other}
use Rattle.bf_buddy.specs.Members.{is_member}
use Rattle.bf_buddy.proofs.MemberLemmas.{member_filter_parts, range_within}
use Rattle.bf_program.specs.declared.epoch.Epoch.{Epoch}
use Rattle.bf_program.specs.Meanings.{Meanings}
use Rattle.bf_program.specs.Laws.{KeepsLimits, KeepsGood, KeepsStored}
use Rattle.bf_program.specs.Restores.{restored_locals}
use Rattle.bf_core.specs.declared.decision.Decision.{Decision}
use Rattle.bf_core.specs.declared.decision.Decision.TheVariants.{Lose, WantMemory, Commit, Restore}
use Rattle.bf_core.specs.declared.event.Event.{Event}
use Rattle.bf_core.specs.declared.event.Event.TheVariants.{Send, Recv, Arrive, Leave, Die}
use Rattle.bf_core.specs.declared.outcome.Outcome.{Outcome}
use Rattle.bf_core.specs.declared.outcome.Outcome.TheVariants as outcomes
use Rattle.bf_core.specs.declared.place.Place.TheVariants.{Past}
use Rattle.bf_core.specs.declared.standing.Stage.TheVariants.{Leaving}
use Rattle.bf_core.specs.Stages.{is_leaving, is_gone, has_finished_rounds, lives}
use Rattle.bf_core.specs.States.{State, stage, opening}
use Rattle.bf_core.specs.Legal.{is_legal, actor}
use Rattle.bf_core.specs.Next.{may_decide, happened, is_ripe, decision, decided, dissolved, ended, committed, restored}
use Rattle.bf_core.proofs.StageLemmas.{is_rank}
use Rattle.bf_core.proofs.SoundLemmas.{is_open, acting, active_of, opening_fails}
use Rattle.bf_core.proofs.LawLemmas.{step_of, IsSameEpoch, same_epoch}
use Rattle.bf_world.specs.Course.{first_place}
use Rattle.bf_world.specs.Runs.{Run, place, begun, last_locals, will_be_filled, run_happened, run_decided, next_run, is_legal_in, opening_run, run_from, is_legal_from, run_after, is_journal}
use Rattle.bf_world.proofs.HoldLemmas.{begins_at}
use Rattle.bf_world.proofs.LeaveLemmas.{none_leaves}
use Rattle.bf_world.proofs.LawfulLemmas.{IsLawful, next_lawful, opening_lawful}
use Rattle.bf_world.proofs.MemberLemmas.{Apart, apart_range}
use Rattle.bf_world.proofs.ResultLemmas.{gives, IsGiven, IsResult, unopened, happened_given, done_members, unripe_next, next_result, opening_result}
use Rattle.bf_world.proofs.RunLemmas.{ripe_next}

module _ {S L M T R : Type 0} (m : Meanings S L M T R) (setup : S) where
  -- who must leave stands where the epoch begins
  abbrev pub AreBeginning : Run L T → Type 0
  AreBeginning run = (rank : ℕ) → stage run.core rank ≡ Leaving → place run rank ≡ first_place m setup run.core.epoch run.start rank

  -- another rank stands where it did
  place_stays : (run : Run L T) (event : Event) (other : ℕ) → other ≢ actor event → place (run_happened m setup run event) other ≡ place run other
  place_stays run (Send rank to blocks sum) other differs = get_or-set_other run.places rank other _ Past differs
  place_stays run (Recv rank peer) other differs = get_or-set_other run.places rank other _ Past differs
  place_stays run (Arrive rank how) other differs = refl
  place_stays run (Leave rank) other differs = refl
  place_stays run (Die rank) other differs = refl

  happened_beginning : (run : Run L T) (event : Event) → is_legal run.core event (place run (actor event)) ≡ true → AreBeginning run
      → AreBeginning (run_happened m setup run event)
  happened_beginning run event legal begins rank leaves =
      let filled : Bool = will_be_filled m setup run (actor event) in
      let differs : rank ≢ actor event =
      λ same. let both : true ≡ false = sym (ap is_leaving leaves) ∙ ap (λ r. is_leaving (stage (happened run.core event filled) r)) same
      ∙ none_leaves run.core event (place run (actor event)) filled legal in absurd (cc) in
      place_stays run event rank differs
      ∙ begins rank (sym ((step_of run.core event (place run (actor event)) filled legal).moved.others rank differs) ∙ leaves)
      ∙ ap (λ epoch. first_place m setup epoch run.start rank) (sym (same_epoch run.core event filled).epoch)

  -- the parcels of a run are those of ranks that stand once, and in a finished run of every member
  pub record HasRegister (run : Run L T) : Type 0 where
    pub members : Apart run.core.epoch.members
    pub below : (y : ℕ) → is_member run.core.epoch.members y ≡ true → y < m.ranks setup
    pub arrivals : List ℕ
    pub apart : Apart arrivals
    pub parcels_are : run.parcels ≡ flat_map (gives m setup run.core.epoch run.start) arrivals
    pub full : run.core.outcome ≡ Some outcomes.Finished → (rank : ℕ) → is_member run.core.epoch.members rank ≡ true → is_member arrivals rank ≡ true

  -- what holds of every run that a journal tells
  pub record IsKept (run : Run L T) : Type 0 where
    pub begins : run.core.outcome ≡ None → AreBeginning run
    pub over : (outcome : Outcome) → run.core.outcome ≡ Some outcome → HasRegister run

  -- after an end no parcel comes or goes
  over_parcels : (run : Run L T) (event : Event) → is_legal run.core event (place run (actor event)) ≡ true
      → ((rank : ℕ) → is_open (stage run.core rank) ≡ false) → (run_happened m setup run event).parcels ≡ run.parcels
  over_parcels run (Send rank to blocks sum) legal closed = refl
  over_parcels run (Recv rank peer) legal closed = refl
  over_parcels run (Arrive rank how) legal closed =
      let both : true ≡ false = sym (ap is_open (acting run.core rank (active_of run.core rank how (place run rank) legal))) ∙ closed rank in absurd (cc)
  over_parcels run (Leave rank) legal closed = refl
  over_parcels run (Die rank) legal closed =
      ap (λ b. if b then filter (λ parcel. not (parcel.0 == rank)) run.parcels else run.parcels) (unopened (stage run.core rank) (closed rank))

  -- the members of a decided epoch, and who has given
  ended_register : (run : Run L T) (core : State) → IsGiven m setup run → core.epoch ≡ run.core.epoch → Apart run.core.epoch.members
      → ((y : ℕ) → is_member run.core.epoch.members y ≡ true → y < m.ranks setup)
      → (core.outcome ≡ Some outcomes.Finished → (rank : ℕ) → is_member run.core.epoch.members rank ≡ true
      → (has_finished_rounds (stage run.core rank) && (run.core.epoch.target == run.core.steps)) ≡ true)
      → HasRegister (record { core = core; start = run.start; places = run.places; parcels = run.parcels })
  ended_register run core given same members below full = record {
    members = subst (λ (e : Epoch). Apart e.members) (sym same) members;
    below = subst (λ (e : Epoch). (y : ℕ) → is_member e.members y ≡ true → y < m.ranks setup) (sym same) below;
    arrivals = given.arrivals;
    apart = given.apart;
    parcels_are = given.parcels_are ∙ ap (λ (e : Epoch). flat_map (gives m setup e run.start) given.arrivals) (sym same);
    full = λ ends rank member. given.who rank ∙ full ends rank (ap (λ (e : Epoch). is_member e.members rank) (sym same) ∙ member);
  }

  begun_kept : (core : State) (start : List L) (parcels : List (ℕ × T)) → core.outcome ≡ None
      → ((rank : ℕ) → stage core rank ≡ Leaving → rank < m.ranks setup) → IsKept (begun m setup core start parcels)
  begun_kept core start parcels none within = record {
    begins = λ _ rank leaves. begins_at m setup core start parcels rank (within rank leaves);
    over = λ outcome ends. absurd (let both : None ≡ Some outcome = sym none ∙ ends in cc);
  }

  decided_kept : (run : Run L T) (made : Decision) → IsGiven m setup run → run.core.outcome ≡ None → Apart run.core.epoch.members
      → ((y : ℕ) → is_member run.core.epoch.members y ≡ true → y < m.ranks setup)
      → (made ≡ Commit → (rank : ℕ) → is_member run.core.epoch.members rank ≡ has_finished_rounds (stage run.core rank))
      → ((rank : ℕ) → stage (run_decided m setup run made).core rank ≡ Leaving → rank < m.ranks setup)
      → IsKept (run_decided m setup run made)
  unfolding decided dissolved
  decided_kept run (Lose home buddy) given none members below all_done within = record {
    begins = λ none. absurd (cc);
    over = λ _ _. ended_register run (decided run.core (Lose home buddy)) given refl members below (λ ends. absurd (cc));
  }
  decided_kept run WantMemory given none members below all_done within = record {
    begins = λ none. absurd (cc);
    over = λ _ _. ended_register run (decided run.core WantMemory) given refl members below (λ ends. absurd (cc));
  }
  decided_kept run Commit given none members below all_done within = at_end (run.core.epoch.target == run.core.steps) refl within
    where
      after : Bool → Run L T
      after b = if b then record run { core = if b then ended run.core outcomes.Finished else committed run.core }
          else begun m setup (if b then ended run.core outcomes.Finished else committed run.core) (map m.keep (last_locals m setup run)) run.parcels

      at_end : (b : Bool) → (run.core.epoch.target == run.core.steps) ≡ b → ((rank : ℕ) → stage (after b).core rank ≡ Leaving → rank < m.ranks setup) → IsKept (after b)
      at_end true ends within = record {
        begins = λ none. absurd (cc);
        over = λ _ _. ended_register run (ended run.core outcomes.Finished) given refl members below
            (λ _ rank member. and_from (has_finished_rounds (stage run.core rank)) _ (sym (all_done refl rank) ∙ member) ends);
      }
      at_end false unended within = begun_kept (committed run.core) (map m.keep (last_locals m setup run)) run.parcels none within
  decided_kept run Restore given none members below all_done within =
      begun_kept (restored run.core) (restored_locals m setup run.core.epoch (λ rank. lives (stage run.core rank)) run.start) [] none within

module _ {S L M T R : Type 0} (m : Meanings S L M T R) (good : S → Epoch → ℕ → List L → Type 0) (setup : S)
    (goods : KeepsGood m good setup) (stores : KeepsStored m good setup) where
  -- while a run goes on, its members stand once and are ranks
  members_within : (run : Run L T) → IsLawful m good setup goods stores run → run.core.outcome ≡ None
      → Apart run.core.epoch.members × ((y : ℕ) → is_member run.core.epoch.members y ≡ true → y < m.ranks setup)
  members_within run lawful none = (
    subst Apart (sym (lawful.sound.members none)) (apart_range (λ rank. not (is_gone (stage run.core rank))) 0 run.core.ranks),
    λ y member. let here : y < 0 + run.core.ranks = range_within 0 run.core.ranks y
        (member_filter_parts (λ rank. not (is_gone (stage run.core rank))) (range_with_len 0 run.core.ranks) y
        (ap (λ members. is_member members y) (sym (lawful.sound.members none)) ∙ member)).0 in
        omega (arith, here, lawful.steady.ranks),
  )

  -- the register of a run that goes on
  going_register : (run : Run L T) → IsLawful m good setup goods stores run → IsResult m good setup goods stores run → run.core.outcome ≡ None → HasRegister m setup run
  going_register run lawful result none = record {
    members = (members_within run lawful none).0;
    below = (members_within run lawful none).1;
    arrivals = (result.going none).arrivals;
    apart = (result.going none).apart;
    parcels_are = (result.going none).parcels_are;
    full = λ ends. absurd (let both : None ≡ Some outcomes.Finished = sym none ∙ ends in cc);
  }

  -- the register of any run
  pub register : (run : Run L T) → IsLawful m good setup goods stores run → IsResult m good setup goods stores run → IsKept m setup run → HasRegister m setup run
  register run lawful result kept = by_outcome run.core.outcome refl
    where
      by_outcome : (o : Option Outcome) → run.core.outcome ≡ o → HasRegister m setup run
      by_outcome None none = going_register run lawful result none
      by_outcome (Some outcome) ends = kept.over outcome ends

  next_kept : (run : Run L T) (event : Event) → IsLawful m good setup goods stores run → is_legal_in m setup run event ≡ true
      → IsResult m good setup goods stores run → IsKept m setup run → IsKept m setup (next_run m setup run event)
  unfolding is_legal_in
  next_kept run event lawful legal result kept = by_outcome run.core.outcome refl
    where
      core_legal : is_legal run.core event (place run (actor event)) ≡ true
      core_legal = (and_parts (is_legal run.core event (place run (actor event))) _ legal).0

      later : Run L T
      later = run_happened m setup run event

      same : IsSameEpoch run.core (happened run.core event (will_be_filled m setup run (actor event)))
      same = same_epoch run.core event (will_be_filled m setup run (actor event))

      quiet : (may_decide event && is_ripe (run_happened m setup run event).core) ≡ false → IsKept m setup (run_happened m setup run event) → IsKept m setup (next_run m setup run event)
      quiet unripe is = subst (IsKept m setup) (sym (unripe_next m good setup goods stores run event unripe)) is

      going : run.core.outcome ≡ None → IsKept m setup (run_happened m setup run event)
      going none = record {
        begins = λ _. happened_beginning m setup run event core_legal (kept.begins none);
        over = λ outcome ends. absurd (let both : None ≡ Some outcome = sym none ∙ sym same.outcome ∙ ends in cc);
      }

      by_ripe : run.core.outcome ≡ None → (a : Bool) → may_decide event ≡ a → (b : Bool) → is_ripe (run_happened m setup run event).core ≡ b
          → IsKept m setup (next_run m setup run event)
      by_ripe none false may b ripe = quiet (ap (λ c. c && is_ripe (run_happened m setup run event).core) may) (going none)
      by_ripe none true may false unripe = quiet (and_right _ _ unripe) (going none)
      by_ripe none true may true ripe =
          let after : next_run m setup run event ≡ run_decided m setup (run_happened m setup run event) (decision (run_happened m setup run event).core) =
          ripe_next m setup run event may ripe in
          let next : IsLawful m good setup goods stores (run_decided m setup (run_happened m setup run event) (decision (run_happened m setup run event).core)) =
          subst (IsLawful m good setup goods stores) after (next_lawful m good setup goods stores run event lawful legal) in
          let members = members_within run lawful none in
          subst (IsKept m setup) (sym after)
          (decided_kept m setup (run_happened m setup run event) (decision (run_happened m setup run event).core)
          (happened_given m setup run event core_legal (result.going none))
          (same.outcome ∙ none)
          (subst (λ (e : Epoch). Apart e.members) (sym same.epoch) members.0)
          (subst (λ (e : Epoch). (y : ℕ) → is_member e.members y ≡ true → y < m.ranks setup) (sym same.epoch) members.1)
          (λ commits. done_members m good setup goods stores run event lawful core_legal ripe commits)
          (λ rank leaves. omega (arith, is_rank is_leaving (run_decided m setup (run_happened m setup run event) (decision (run_happened m setup run event).core)).core rank refl (ap is_leaving leaves), next.sound.size, next.steady.ranks)))

      over : (outcome : Outcome) → run.core.outcome ≡ Some outcome → IsKept m setup (run_happened m setup run event)
      over outcome ends =
          let before : HasRegister m setup run = kept.over outcome ends in
          let parcels : (run_happened m setup run event).parcels ≡ run.parcels = over_parcels m setup run event core_legal (lawful.sound.over outcome ends) in
          record {
            begins = λ none. absurd (let both : None ≡ Some outcome = sym none ∙ same.outcome ∙ ends in cc);
            over = λ _ _. record {
              members = subst (λ (e : Epoch). Apart e.members) (sym same.epoch) before.members;
              below = subst (λ (e : Epoch). (y : ℕ) → is_member e.members y ≡ true → y < m.ranks setup) (sym same.epoch) before.below;
              arrivals = before.arrivals;
              apart = before.apart;
              parcels_are = parcels ∙ before.parcels_are ∙ ap (λ (e : Epoch). flat_map (gives m setup e run.start) before.arrivals) (sym same.epoch);
              full = λ finishes rank member. before.full (sym same.outcome ∙ finishes) rank (ap (λ (e : Epoch). is_member e.members rank) (sym same.epoch) ∙ member);
            };
          }

      not_ripe : (a b : Bool) → (o : Option Outcome) (outcome : Outcome) → o ≡ Some outcome → (a && (not (is_some o) && b)) ≡ false
      not_ripe true b (Some other) outcome _ = refl
      not_ripe false b (Some other) outcome _ = refl
      not_ripe a b None outcome ends = absurd (cc)

      by_outcome : (o : Option Outcome) → run.core.outcome ≡ o → IsKept m setup (next_run m setup run event)
      by_outcome (Some outcome) ends = quiet (not_ripe (may_decide event) _ (run_happened m setup run event).core.outcome outcome (same.outcome ∙ ends)) (over outcome ends)
      by_outcome None none = by_ripe none (may_decide event) refl (is_ripe (run_happened m setup run event).core) refl

  opening_kept : IsKept m setup (opening_run m setup)
  unfolding opening_run opening
  opening_kept = record {
    begins = λ _ rank leaves. absurd (let both : true ≡ false = sym (ap is_leaving leaves)
        ∙ opening_fails is_leaving refl refl (m.ranks setup) (m.laid setup) (m.deaths setup) (m.shift setup) (m.steps setup) (m.interval setup) rank in cc);
    over = λ outcome ends. absurd (cc);
  }

  from_kept : (run : Run L T) (journal : List Event) → IsLawful m good setup goods stores run → is_legal_from m setup run journal ≡ true
      → IsResult m good setup goods stores run → IsKept m setup run → IsKept m setup (run_from m setup run journal)
  from_kept run [] lawful legal result kept = kept
  from_kept run (event ∷ events) lawful legal result kept =
      let first : is_legal_in m setup run event ≡ true = (and_parts (is_legal_in m setup run event) _ legal).0 in
      from_kept (next_run m setup run event) events (next_lawful m good setup goods stores run event lawful first)
      (and_parts (is_legal_in m setup run event) _ legal).1 (next_result m good setup goods stores run event lawful first result)
      (next_kept run event lawful first result kept)

  pub after_kept : KeepsLimits m setup → (journal : List Event) → is_journal m setup journal ≡ true → IsKept m setup (run_after m setup journal)
  unfolding run_after is_journal
  after_kept limits journal legal =
      from_kept (opening_run m setup) journal (opening_lawful m good setup goods stores limits) legal (opening_result m good setup goods stores) opening_kept
