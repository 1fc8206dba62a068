-- A run in which no rank is due to die: nobody dies or waits in vain, no part is lost, and nothing is restored.
use Rattle.std.proofs.Common.{◌≡◌, ℕ, ◌+◌, ◌<◌, Bool, true, false, ◌&&◌, ◌||◌, List, [], ◌∷◌, map, filter, length, arith, refl, sym, subst, ◌∙◌, ap, inl, inr}
use Rattle.std.specs.Prelude.{◌==◌, Option, Some, None, is_some, if◌then◌else◌}
use Rattle.std.specs.List.{range_with_len, list_any}
use Rattle.std.specs.Map.{lookup}
use Rattle.std.proofs.Math.ListN.{get_or-map}
use Rattle.std.proofs.lemmas.Bool.{cases_eq, cases_lt, or_left, and_parts}
use Rattle.std.proofs.lemmas.List.{get_or-set_same, get_or-set_other, get_or_past, length-set, length-map}
use Rattle.std.proofs.lemmas.List.FromFn.{length-map-range_with_len, get_or-map-range_with_len}
use Rattle.std.proofs.lemmas.Option.{same_Some}
use Rattle.bf_buddy.proofs.MemberLemmas.{member_filter_from}
use Rattle.bf_buddy.specs.Members.{is_member}
use Rattle.bf_program.specs.declared.epoch.Epoch.{Epoch}
use Rattle.bf_program.specs.Meanings.{Meanings}
use Rattle.bf_program.specs.Laws.{KeepsLimits, KeepsGood, KeepsStored}
use Rattle.bf_core.specs.declared.decision.Decision.{Decision}
use Rattle.bf_core.specs.declared.decision.Decision.TheVariants.{Lose, WantMemory, Commit, Restore}
use Rattle.bf_core.specs.declared.event.Event.{Event}
use Rattle.bf_core.specs.declared.event.Event.TheVariants.{Send, Recv, Arrive, Leave, Die}
use Rattle.bf_core.specs.declared.event.How.{How}
use Rattle.bf_core.specs.declared.event.How.TheVariants.{Done, Broken, Memory}
use Rattle.bf_core.specs.declared.outcome.Outcome.{Outcome}
use Rattle.bf_core.specs.declared.outcome.Outcome.TheVariants as outcomes
use Rattle.bf_core.specs.declared.place.Place.{Place}
use Rattle.bf_core.specs.declared.standing.Stage.{Stage}
use Rattle.bf_core.specs.declared.standing.Stage.TheVariants.{Running, Arrived, Leaving, Ended, Dead, Gone}
use Rattle.bf_core.specs.declared.standing.Standing.{Standing}
use Rattle.bf_core.specs.Stages.{is_done, is_leaving, is_dead, goes_on, lives, after_decision}
use Rattle.bf_core.specs.Places.{is_just, next_receive}
use Rattle.bf_core.specs.States.{State, standing, stage, is_active, live_members, first_lost, opening}
use Rattle.bf_core.specs.Legal.{actor, is_legal, waits}
use Rattle.bf_core.specs.Next.{with_stage, may_decide, happened, is_ripe, decision, decided, dissolved, ended, committed, settled, next}
use Rattle.bf_core.proofs.StageLemmas.{nobody, Someone, someone, is_rank, stage_same, stage_other, stage_dissolved}
use Rattle.bf_core.proofs.SoundLemmas.{IsSound, acting, active_of, in_list, leaving_stage}
use Rattle.bf_core.proofs.ArrivalLemmas.{IsFair, happened_size, happened_fair}
use Rattle.bf_core.proofs.LawLemmas.{Losses, same_epoch, running_where_ripe, decision_lost, next_settles, next_happens, ripe_decides, unripe_waits}
use Rattle.bf_world.specs.Ends.{NobodyDies, tells_of_death}
use Rattle.bf_world.specs.Runs.{Run, place, will_be_filled, opening_run, next_run, is_legal_in, run_from, is_legal_from, is_journal}
use Rattle.bf_world.specs.Worlds.{is_restore, brings_decision, brings_restore, restores_from, restores_in}
use Rattle.bf_world.proofs.LawfulLemmas.{IsLawful, core_next, next_lawful, opening_lawful}
use Rattle.bf_world.proofs.DeathLemmas.{lives_after}
use Rattle.bf_world.proofs.WaitingLemmas.{member_below}
use Rattle.bf_world.proofs.WeightLemmas.{someone_dead}

-- no rank is to die, all live, and each home of the agreed snapshot is a member
pub record IsPeaceful (state : State) : Type 0 where
  pub fated : (rank : ℕ) → (standing state rank).death ≡ None
  pub alive : (rank : ℕ) → rank < length state.standings → lives (stage state rank) ≡ true
  pub homes : state.epoch.homes ≡ state.epoch.members
  pub unlost : (time home buddy : ℕ) → state.outcome ≡ Some (outcomes.Lost time home buddy) → ⊥

not_dead : (s : Stage) → lives s ≡ true → is_dead s ≡ false
not_dead Running _ = refl
not_dead (Arrived how filled) _ = refl
not_dead Leaving _ = refl
not_dead Ended _ = refl
not_dead Dead still = absurd (cc)
not_dead Gone _ = refl

nobody_dead : (state : State) → IsPeaceful state → Someone is_dead state → ⊥
nobody_dead state peaceful (rank, (within, dead)) = let e : true ≡ false = sym dead ∙ not_dead (stage state rank) (peaceful.alive rank within) in cc

staged_peaceful : (state : State) (rank : ℕ) (to : Stage) → rank < length state.standings → lives to ≡ true → IsPeaceful state → IsPeaceful (with_stage state rank to)
staged_peaceful state rank to within life peaceful = record {
  fated = λ r. elim (cases_eq r rank) [
    | inl e ↦ let P : ℕ → Type 0 = λ y. (standing (with_stage state rank to) y).death ≡ None in
        subst P (sym e) (ap {A = Standing} (λ s. s.death) (get_or-set_same state.standings rank (record (standing state rank) { stage = to; events = (standing state rank).events + 1 }) nobody within) ∙ peaceful.fated rank)
    | inr differs ↦ ap {A = Standing} (λ s. s.death) (get_or-set_other state.standings rank r (record (standing state rank) { stage = to; events = (standing state rank).events + 1 }) nobody differs) ∙ peaceful.fated r
  ];
  alive = λ r listed. elim (cases_eq r rank) [
    | inl e ↦ let P : ℕ → Type 0 = λ y. lives (stage (with_stage state rank to) y) ≡ true in subst P (sym e) (ap lives (stage_same state rank to within) ∙ life)
    | inr differs ↦ ap lives (stage_other state rank r to differs) ∙ peaceful.alive r (omega (arith, listed, length-set state.standings rank (record (standing state rank) { stage = to; events = (standing state rank).events + 1 })))
  ];
  homes = peaceful.homes;
  unlost = peaceful.unlost;
}

due_none : (goes : Bool) (events : ℕ) (death : Option ℕ) → death ≡ None → (goes && is_just death events) ≡ true → ⊥
due_none true events (Some n) fated due = absurd (cc)
due_none true events None fated due = absurd (cc)
due_none false events death fated due = absurd (cc)

happened_peaceful : (state : State) (event : Event) (place : Place) (filled : Bool) → is_legal state event place ≡ true → IsPeaceful state → IsPeaceful (happened state event filled)
happened_peaceful state (Send rank to blocks sum) place filled legal peaceful =
    let runs : stage state rank ≡ Running = acting state rank (and_parts (is_active state rank) _ legal).0 in
    let kept : IsPeaceful (with_stage state rank (stage state rank)) = staged_peaceful state rank (stage state rank) (in_list state rank runs) (ap lives runs) peaceful in
    record { fated = kept.fated; alive = kept.alive; homes = kept.homes; unlost = kept.unlost }
happened_peaceful state (Recv rank peer) place filled legal peaceful =
    let runs : stage state rank ≡ Running = acting state rank (and_parts (is_active state rank) _ (and_parts (is_active state rank && is_just (next_receive place) peer) _ legal).0).0 in
    let kept : IsPeaceful (with_stage state rank (stage state rank)) = staged_peaceful state rank (stage state rank) (in_list state rank runs) (ap lives runs) peaceful in
    record { fated = kept.fated; alive = kept.alive; homes = kept.homes; unlost = kept.unlost }
happened_peaceful state (Arrive rank how) place filled legal peaceful =
    staged_peaceful state rank (Arrived how (is_done how && filled)) (in_list state rank (acting state rank (active_of state rank how place legal))) refl peaceful
happened_peaceful state (Leave rank) place filled legal peaceful =
    let leaving : stage state rank ≡ Leaving = leaving_stage state rank (and_parts (is_leaving (stage state rank)) _ legal).0 in
    staged_peaceful state rank (if is_some state.outcome then Ended else Running) (is_rank is_leaving state rank refl (ap is_leaving leaving)) (by_end (is_some state.outcome)) peaceful
  where
    by_end : (b : Bool) → lives (if b then Ended else Running) ≡ true
    by_end true = refl
    by_end false = refl
happened_peaceful state (Die rank) place filled legal peaceful =
    absurd (due_none (goes_on (stage state rank)) (standing state rank).events (standing state rank).death (peaceful.fated rank) legal)

dissolved_fated : (state : State) → IsPeaceful state → (rank : ℕ) → (standing (dissolved state) rank).death ≡ None
unfolding dissolved
dissolved_fated state peaceful rank = ap (λ s. s.death) (get_or-map {A = Standing} (λ s. record s { stage = after_decision s.stage }) state.standings rank nobody) ∙ peaceful.fated rank

dissolved_alive : (state : State) → IsPeaceful state → (rank : ℕ) → rank < length (dissolved state).standings → lives (stage (dissolved state) rank) ≡ true
unfolding dissolved
dissolved_alive state peaceful rank within =
    ap lives (stage_dissolved state rank) ∙ lives_after (stage state rank)
    ∙ peaceful.alive rank (omega (arith, within, length-map state.standings (λ (s : Standing). record s { stage = after_decision s.stage })))

ended_peaceful : (state : State) (outcome : Outcome) → ((time home buddy : ℕ) → outcome ≡ outcomes.Lost time home buddy → ⊥) → IsPeaceful state → IsPeaceful (ended state outcome)
unfolding dissolved
ended_peaceful state outcome kept peaceful = record {
  fated = dissolved_fated state peaceful;
  alive = dissolved_alive state peaceful;
  homes = peaceful.homes;
  unlost = λ time home buddy ends. kept time home buddy (same_Some _ _ ends);
}

decided_peaceful : (state : State) (made : Decision) → (made ≡ Restore → ⊥) → ((home buddy : ℕ) → made ≡ Lose home buddy → ⊥) → IsPeaceful state → IsPeaceful (decided state made)
unfolding decided dissolved
decided_peaceful state (Lose home buddy) stays keeps peaceful = absurd (keeps home buddy refl)
decided_peaceful state WantMemory stays keeps peaceful = ended_peaceful state outcomes.Memory (λ time home buddy loses. absurd (cc)) peaceful
decided_peaceful state Commit stays keeps peaceful = at_end (state.epoch.target == state.steps)
  where
    at_end : (b : Bool) → IsPeaceful (if b then ended state outcomes.Finished else committed state)
    at_end true = ended_peaceful state outcomes.Finished (λ time home buddy loses. absurd (cc)) peaceful
    at_end false = record { fated = dissolved_fated state peaceful; alive = dissolved_alive state peaceful; homes = refl; unlost = peaceful.unlost }
decided_peaceful state Restore stays keeps peaceful = absurd (stays refl)

-- no part is lost where every home is a member that lives
nothing_lost : Losses → (state : State) → IsPeaceful state → ((rank : ℕ) → is_member state.epoch.members rank ≡ true → rank < length state.standings)
    → first_lost state ≡ None
unfolding live_members
nothing_lost losses state peaceful listed =
    (losses state.epoch.homes state.stored (filter (λ rank. lives (stage state rank)) state.epoch.members) state.shift).1
    (λ home is_home stored.
    let member : is_member state.epoch.members home ≡ true = ap (λ xs. is_member xs home) (sym peaceful.homes) ∙ is_home in
    or_left _ _ (member_filter_from (λ rank. lives (stage state rank)) state.epoch.members home member (peaceful.alive home (listed home member))))

-- what an event of a peaceful run leaves
module _ (losses : Losses) (state : State) (event : Event) (place : Place) (filled : Bool) (sound : IsSound state) (fair : IsFair state)
    (legal : is_legal state event place ≡ true) (peaceful : IsPeaceful state) where
  later_peaceful : IsPeaceful (happened state event filled)
  later_peaceful = happened_peaceful state event place filled legal peaceful

  never_restores : is_ripe (happened state event filled) ≡ true → decision (happened state event filled) ≡ Restore → ⊥
  never_restores ripe restores = nobody_dead (happened state event filled) later_peaceful
      (someone_dead (happened state event filled) ripe (happened_fair state event place filled legal fair) restores)

  never_loses : is_ripe (happened state event filled) ≡ true → (home buddy : ℕ) → decision (happened state event filled) ≡ Lose home buddy → ⊥
  never_loses ripe home buddy loses =
      let e : false ≡ true = ap is_some (sym (nothing_lost losses (happened state event filled) later_peaceful listed) ∙ decision_lost (happened state event filled) home buddy loses) in cc
    where
      none : state.outcome ≡ None
      none = sym (same_epoch state event filled).outcome ∙ running_where_ripe (happened state event filled) ripe

      listed : (rank : ℕ) → is_member (happened state event filled).epoch.members rank ≡ true → rank < length (happened state event filled).standings
      listed rank member =
          let before : is_member state.epoch.members rank ≡ true = ap (λ epoch. is_member epoch.members rank) (sym (same_epoch state event filled).epoch) ∙ member in
          omega (arith, member_below state rank sound none before, sound.size, happened_size state event filled)

  next_peaceful : IsPeaceful (next state event filled)
  next_peaceful = by_event (may_decide event) refl
    where
      by_ripe : (b : Bool) → is_ripe (happened state event filled) ≡ b → IsPeaceful (settled (happened state event filled))
      by_ripe true ripe = subst IsPeaceful (sym (ripe_decides (happened state event filled) ripe))
          (decided_peaceful (happened state event filled) (decision (happened state event filled)) (never_restores ripe) (never_loses ripe) later_peaceful)
      by_ripe false unripe = subst IsPeaceful (sym (unripe_waits (happened state event filled) unripe)) later_peaceful

      by_event : (b : Bool) → may_decide event ≡ b → IsPeaceful (next state event filled)
      by_event true may = subst IsPeaceful (sym (next_settles state event filled may)) (by_ripe (is_ripe (happened state event filled)) refl)
      by_event false may = subst IsPeaceful (sym (next_happens state event filled may)) later_peaceful

  tells_none : tells_of_death event ≡ false
  tells_none = by_event event refl
    where
      by_how : (rank : ℕ) (how : How) → event ≡ Arrive rank how → tells_of_death (Arrive rank how) ≡ false
      by_how rank Done is = refl
      by_how rank Memory is = refl
      by_how rank Broken is =
          absurd (nobody_dead state peaceful (someone is_dead state (and_parts (is_active state rank && waits state rank place) _
          (ap (λ e. is_legal state e place) (sym is) ∙ legal)).1))

      by_event : (e : Event) → event ≡ e → tells_of_death event ≡ false
      by_event (Send rank to blocks sum) is = ap tells_of_death is
      by_event (Recv rank peer) is = ap tells_of_death is
      by_event (Arrive rank how) is = ap tells_of_death is ∙ by_how rank how is
      by_event (Leave rank) is = ap tells_of_death is
      by_event (Die rank) is = absurd (due_none (goes_on (stage state rank)) (standing state rank).events (standing state rank).death (peaceful.fated rank)
          (ap (λ e. is_legal state e place) (sym is) ∙ legal))

  not_restore : (may ripe : Bool) → (ripe ≡ true → is_ripe (happened state event filled) ≡ true) → is_restore (may && ripe) (decision (happened state event filled)) ≡ false
  not_restore may ripe is = by_made (decision (happened state event filled)) refl (may && ripe) (λ both. is (and_parts may ripe both).1)
    where
      by_made : (made : Decision) → decision (happened state event filled) ≡ made → (b : Bool) → (b ≡ true → is_ripe (happened state event filled) ≡ true) → is_restore b made ≡ false
      by_made (Lose home buddy) _ b _ = refl
      by_made WantMemory _ b _ = refl
      by_made Commit _ b _ = refl
      by_made Restore restores true ripe_then = absurd (never_restores (ripe_then refl) restores)
      by_made Restore restores false _ = refl

opening_peaceful : {S L M T R : Type 0} (m : Meanings S L M T R) (setup : S) → NobodyDies m setup → IsPeaceful (opening_run {T = T} m setup).core
unfolding opening_run opening
opening_peaceful m setup nobody_dies = record {
  fated = λ rank. elim (cases_lt rank (m.ranks setup)) [
    | inl within ↦ ap (λ s. s.death) (get_or-map-range_with_len {X = Standing} (λ r. record { stage = Running; death = lookup (λ other. other == r) (m.deaths setup); events = 0 })
        0 (m.ranks setup) rank rank nobody within (omega arith)) ∙ ap (λ ds. lookup (λ other. other == rank) ds) nobody_dies
    | inr past ↦ ap (λ s. s.death) (get_or_past {X = Standing}
        (map {B = Standing} (λ r. record { stage = Running; death = lookup (λ other. other == r) (m.deaths setup); events = 0 }) (range_with_len 0 (m.ranks setup))) rank nobody
        (omega (arith, past, length-map-range_with_len {X = Standing} (λ r. record { stage = Running; death = lookup (λ other. other == r) (m.deaths setup); events = 0 }) 0 (m.ranks setup))))
  ];
  alive = λ rank within. ap (λ s. lives s.stage) (get_or-map-range_with_len {X = Standing} (λ r. record { stage = Running; death = lookup (λ other. other == r) (m.deaths setup); events = 0 })
      0 (m.ranks setup) rank rank nobody
      (omega (arith, within, length-map-range_with_len {X = Standing} (λ r. record { stage = Running; death = lookup (λ other. other == r) (m.deaths setup); events = 0 }) 0 (m.ranks setup))) (omega arith));
  homes = refl;
  unlost = λ time home buddy ends. absurd (cc);
}

module _ {S L M T R : Type 0} (m : Meanings S L M T R) (good : S → Epoch → ℕ → List L → Type 0) (setup : S)
    (goods : KeepsGood m good setup) (stores : KeepsStored m good setup) (losses : Losses) where
  -- what a peaceful run comes to after more events
  pub record StaysPeaceful (run : Run L T) (journal : List Event) : Type 0 where
    pub peaceful : IsPeaceful (run_from m setup run journal).core
    pub quiet : list_any tells_of_death journal ≡ false
    pub kept : (before : ℕ) → restores_from m setup run journal before ≡ before

  from_peaceful : (run : Run L T) (journal : List Event) → IsLawful m good setup goods stores run → is_legal_from m setup run journal ≡ true → IsPeaceful run.core → StaysPeaceful run journal
  unfolding is_legal_in brings_restore brings_decision
  from_peaceful run [] lawful legal peaceful = record { peaceful = peaceful; quiet = refl; kept = λ before. refl }
  from_peaceful run (event ∷ events) lawful legal peaceful =
      let first : is_legal_in m setup run event ≡ true = (and_parts (is_legal_in m setup run event) _ legal).0 in
      let core_legal : is_legal run.core event (place run (actor event)) ≡ true = (and_parts (is_legal run.core event (place run (actor event))) _ first).0 in
      let filled : Bool = will_be_filled m setup run (actor event) in
      let rest : StaysPeaceful (next_run m setup run event) events =
      from_peaceful (next_run m setup run event) events (next_lawful m good setup goods stores run event lawful first) (and_parts (is_legal_in m setup run event) _ legal).1
      (subst IsPeaceful (sym (core_next m good setup goods stores run event))
      (next_peaceful losses run.core event (place run (actor event)) filled lawful.sound lawful.fair core_legal peaceful)) in
      record {
        peaceful = rest.peaceful;
        quiet = ap (λ b. b || list_any tells_of_death events) (tells_none losses run.core event (place run (actor event)) filled lawful.sound lawful.fair core_legal peaceful) ∙ rest.quiet;
        kept = λ before.
            ap (λ b. restores_from m setup (next_run m setup run event) events (if b then before + 1 else before))
            (not_restore losses run.core event (place run (actor event)) filled lawful.sound lawful.fair core_legal peaceful (may_decide event)
            (is_ripe (happened run.core event (will_be_filled m setup run (actor event)))) (λ ripe. ripe))
            ∙ rest.kept before;
      }

  pub after_peaceful : KeepsLimits m setup → NobodyDies m setup → (journal : List Event) → is_journal m setup journal ≡ true → StaysPeaceful (opening_run m setup) journal
  unfolding is_journal
  after_peaceful limits nobody_dies journal legal =
      from_peaceful (opening_run m setup) journal (opening_lawful m good setup goods stores limits) legal (opening_peaceful m setup nobody_dies)

  pub restores_nothing : KeepsLimits m setup → NobodyDies m setup → (journal : List Event) → is_journal m setup journal ≡ true
      → (restores_in m setup journal ≡ 0) × (list_any tells_of_death journal ≡ false)
  unfolding restores_in
  restores_nothing limits nobody_dies journal legal =
      let stays : StaysPeaceful (opening_run m setup) journal = after_peaceful limits nobody_dies journal legal in
      (stays.kept 0, stays.quiet)
