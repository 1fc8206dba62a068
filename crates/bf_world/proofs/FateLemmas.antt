-- What becomes of a run by its deaths: by its last decision, and once both holders of a part have died.
use Rattle.std.proofs.Common.{◌≡◌, ℕ, Bool, true, false, ◌||◌, List, [], ◌∷◌, ◌++◌, arith, refl, sym, subst, ◌∙◌, ap, inl, inr}
use Rattle.std.specs.Prelude.{◌⊎◌, ◌↔◌, Some, None, is_some}
use Rattle.std.proofs.lemmas.Bool.{or_left, and_parts}
use Rattle.std.proofs.lemmas.List.{append_assoc, append-nil}
use Rattle.std.proofs.lemmas.List.Folds.{list_any-append}
use Rattle.bf_buddy.specs.Members.{is_member}
use Rattle.bf_buddy.specs.Buddy.{buddy_of}
use Rattle.bf_program.specs.declared.epoch.Epoch.{Epoch}
use Rattle.bf_program.specs.Meanings.{Meanings}
use Rattle.bf_program.specs.Laws.{KeepsLimits, KeepsGood, KeepsStored}
use Rattle.bf_core.specs.declared.event.Event.{Event}
use Rattle.bf_core.specs.declared.outcome.Outcome.TheVariants as outcomes
use Rattle.bf_core.specs.States.{State, opening}
use Rattle.bf_core.specs.Laws.{OnlyLoses, Undecided, HasLost}
use Rattle.bf_core.specs.Legal.{actor}
use Rattle.bf_core.proofs.LawLemmas.{Losses, IsSameEpoch, same_epoch}
use Rattle.bf_world.specs.Losses.{has_died, is_death_of, BothHoldersDied, IsFirstLost, EndsLost, decides_in, LastDecision}
use Rattle.bf_world.specs.Runs.{will_be_filled, opening_run, next_run, run_after, is_journal}
use Rattle.bf_world.specs.Worlds.{brings_decision, core_after}
use Rattle.bf_world.proofs.RunLemmas.{run_joined, run_more, journal_joined}
use Rattle.bf_world.proofs.DecisionLemmas.{between, quiet_core, quiet_outcome, quiet_end, end_lasts, loses_first, loses_where}

-- an event more, and those after it
one_more : (told : List Event) (event : Event) (events : List Event) → told ++ event ∷ events ≡ (told ++ event ∷ []) ++ events
one_more told event events = sym (append_assoc told (event ∷ []) events)

-- who has died stays dead as a journal goes on
still_died : (told more : List Event) (rank : ℕ) → has_died told rank ≡ true → has_died (told ++ more) rank ≡ true
still_died told more rank died = list_any-append (is_death_of rank) told more ∙ or_left (has_died told rank) _ died

-- so both holders of a part that stays agreed do
both_still_died : (before after : State) (told more : List Event) (home : ℕ) → after.stored ≡ before.stored → after.epoch ≡ before.epoch → after.shift ≡ before.shift
    → BothHoldersDied before told home → BothHoldersDied after (told ++ more) home
both_still_died before after told more home stored epoch shift died = record {
  has_block = ap (λ xs. is_member xs home) stored ∙ died.has_block;
  home_died = still_died told more home died.home_died;
  buddy_died = ap (λ e. has_died (told ++ more) (buddy_of e.homes home after.shift)) epoch
      ∙ ap (λ n. has_died (told ++ more) (buddy_of before.epoch.homes home n)) shift
      ∙ still_died told more (buddy_of before.epoch.homes home before.shift) died.buddy_died;
}

-- after more events: the run goes on in the same epoch, with both holders dead, or it has ended for a lost part
data Follows (lost : State) (home : ℕ) (now : State) (told : List Event) : Type 0 where
  StillLost : now.outcome ≡ None → now.epoch ≡ lost.epoch → BothHoldersDied now told home → Follows lost home now told
  IsOver : EndsLost lost.epoch.time now → Follows lost home now told

module _ {S L M T R : Type 0} (m : Meanings S L M T R) (good : S → Epoch → ℕ → List L → Type 0) (setup : S)
    (goods : KeepsGood m good setup) (stores : KeepsStored m good setup) (limits : KeepsLimits m setup) where
  -- the last decision of more events, if one of them brings a decision
  last_of : (told more : List Event) → (decides_in m setup (run_after m setup told) more ≡ false) ⊎ LastDecision m setup (told ++ more)
  last_of told [] = inl refl
  last_of told (event ∷ events) = by_rest (last_of (told ++ event ∷ []) events)
    where
      by_first : decides_in m setup (run_after m setup (told ++ event ∷ [])) events ≡ false → (b : Bool) → brings_decision m setup (run_after m setup told) event ≡ b
          → (decides_in m setup (run_after m setup told) (event ∷ events) ≡ false) ⊎ LastDecision m setup (told ++ event ∷ events)
      by_first quiet true decides = inr (record { before = told; event = event; later = events; split = refl; decides = decides; last = quiet })
      by_first quiet false waits = inl (ap (λ b. b || decides_in m setup (next_run m setup (run_after m setup told) event) events) waits
          ∙ ap (λ r. decides_in m setup r events) (sym (run_more m setup told event)) ∙ quiet)

      by_rest : (decides_in m setup (run_after m setup (told ++ event ∷ [])) events ≡ false) ⊎ LastDecision m setup ((told ++ event ∷ []) ++ events)
          → (decides_in m setup (run_after m setup told) (event ∷ events) ≡ false) ⊎ LastDecision m setup (told ++ event ∷ events)
      by_rest (inl quiet) = by_first quiet (brings_decision m setup (run_after m setup told) event) refl
      by_rest (inr last) = inr (subst (LastDecision m setup) (sym (one_more told event events)) last)

  -- at the opening a run goes on
  unended : (run_after {T = T} m setup []).core.outcome ≡ None
  unfolding run_after opening_run opening
  unended = refl

  -- a journal that ends a run has a last decision
  pub has_last : (journal : List Event) → is_some (core_after m setup journal).outcome ≡ true → LastDecision m setup journal
  has_last journal ends = elim (last_of [] journal) [
    | inl quiet ↦ absurd (let e : false ≡ true = ap is_some (sym (ap (λ r. r.core.outcome) (run_joined m setup [] journal)
        ∙ quiet_outcome m setup (run_after m setup []) journal quiet ∙ unended)) ∙ ends in cc)
    | inr last ↦ last
  ]

  -- after the last decision the outcome stays, and the journal up to it is legal
  module _ (journal : List Event) (legal : is_journal m setup journal ≡ true) (last : LastDecision m setup journal) where
    whole : journal ≡ (last.before ++ last.event ∷ []) ++ last.later
    whole = last.split ∙ one_more last.before last.event last.later

    last_legal : is_journal m setup (last.before ++ last.event ∷ []) ≡ true
    last_legal = (and_parts (is_journal m setup (last.before ++ last.event ∷ [])) _
        (sym (journal_joined m setup (last.before ++ last.event ∷ []) last.later) ∙ ap (is_journal m setup) (sym whole) ∙ legal)).0

    last_outcome : (core_after m setup journal).outcome ≡ (core_after m setup (last.before ++ last.event ∷ [])).outcome
    last_outcome =
        ap (λ told. (core_after m setup told).outcome) whole
        ∙ ap (λ r. r.core.outcome) (run_joined m setup (last.before ++ last.event ∷ []) last.later)
        ∙ quiet_outcome m setup (run_after m setup (last.before ++ last.event ∷ [])) last.later last.last

    ended_lost : Losses → (home : ℕ) → BothHoldersDied (core_after m setup last.before) (last.before ++ last.event ∷ []) home
        → EndsLost (core_after m setup last.before).epoch.time (core_after m setup journal)
    ended_lost losses home died =
        let ends = loses_where m good setup goods stores limits last.before last.event last_legal losses last.decides home died in
        (ends.0, (ends.1.0, last_outcome ∙ ends.1.1))

    named_first : (time home buddy : ℕ) → (core_after m setup journal).outcome ≡ Some (outcomes.Lost time home buddy)
        → IsFirstLost (core_after m setup last.before) (last.before ++ last.event ∷ []) time home buddy
    named_first time home buddy ends = loses_first m good setup goods stores limits last.before last.event last_legal last.decides time home buddy (sym last_outcome ∙ ends)

    -- a run is lost exactly where both holders of some part have died by its last decision
    pub lost_exactly : Losses → EndsLost (core_after m setup last.before).epoch.time (core_after m setup journal)
        ↔ ((home : ℕ) × BothHoldersDied (core_after m setup last.before) (last.before ++ last.event ∷ []) home)
    lost_exactly losses = (
      (λ ends. (ends.0, (named_first (core_after m setup last.before).epoch.time ends.0 ends.1.0 ends.1.1).lost)),
      (λ (home, died). ended_lost losses home died),
    )

    -- and names the first of them
    pub lost_named : Losses → (time home buddy : ℕ) → ((core_after m setup journal).outcome ≡ Some (outcomes.Lost time home buddy))
        ↔ IsFirstLost (core_after m setup last.before) (last.before ++ last.event ∷ []) time home buddy
    lost_named losses time home buddy = (
      named_first time home buddy,
      (λ first.
          let ends = ended_lost losses home first.lost in
          let named : IsFirstLost (core_after m setup last.before) (last.before ++ last.event ∷ []) (core_after m setup last.before).epoch.time ends.0 ends.1.0 =
          named_first (core_after m setup last.before).epoch.time ends.0 ends.1.0 ends.1.1 in
          let same : ends.0 ≡ home = omega (arith, named.first home first.lost, first.first ends.0 named.lost) in
          ends.1.1
          ∙ ap (λ t. Some (outcomes.Lost t ends.0 ends.1.0)) (sym first.its_time)
          ∙ ap (λ h. Some (outcomes.Lost time h ends.1.0)) same
          ∙ ap (λ b. Some (outcomes.Lost time home b))
          (named.its_buddy ∙ ap (λ h. buddy_of (core_after m setup last.before).epoch.homes h (core_after m setup last.before).shift) same ∙ sym first.its_buddy)),
    )

  -- where both holders of a part have died, more events leave it so, or end the run for a lost part
  follows : Losses → (told more : List Event) (home : ℕ) → is_journal m setup (told ++ more) ≡ true → (core_after m setup told).outcome ≡ None
      → BothHoldersDied (core_after m setup told) told home → Follows (core_after m setup told) home (core_after m setup (told ++ more)) (told ++ more)
  follows losses told [] home legal none died =
      subst (λ (journal : List Event). Follows (core_after m setup told) home (core_after m setup journal) journal) (sym (append-nil told)) (StillLost none refl died)
  follows losses told (event ∷ events) home legal none died =
      subst (λ (journal : List Event). Follows (core_after m setup told) home (core_after m setup journal) journal) (sym (one_more told event events))
      (by_decision (λ still both. follows losses (told ++ event ∷ []) events home
      (ap (is_journal m setup) (sym (one_more told event events)) ∙ legal) still both)
      (brings_decision m setup (run_after m setup told) event) refl)
    where
      here_legal : is_journal m setup (told ++ event ∷ []) ≡ true
      here_legal = (and_parts (is_journal m setup (told ++ event ∷ [])) _
          (sym (journal_joined m setup (told ++ event ∷ []) events) ∙ ap (is_journal m setup) (sym (one_more told event events)) ∙ legal)).0

      same : IsSameEpoch (core_after m setup told) (between m setup (run_after m setup told) event)
      same = same_epoch (core_after m setup told) event (will_be_filled m setup (run_after m setup told) (actor event))

      by_rest : (now : State) → (core_after m setup (told ++ event ∷ [])).epoch ≡ (core_after m setup told).epoch
          → Follows (core_after m setup (told ++ event ∷ [])) home now ((told ++ event ∷ []) ++ events)
          → Follows (core_after m setup told) home now ((told ++ event ∷ []) ++ events)
      by_rest now epoch (StillLost still_none still_epoch still) = StillLost still_none (still_epoch ∙ epoch) still
      by_rest now epoch (IsOver ends) = IsOver (subst (λ (e : Epoch). EndsLost e.time now) epoch ends)

      by_decision : ((core_after m setup (told ++ event ∷ [])).outcome ≡ None → BothHoldersDied (core_after m setup (told ++ event ∷ [])) (told ++ event ∷ []) home
          → Follows (core_after m setup (told ++ event ∷ [])) home (core_after m setup ((told ++ event ∷ []) ++ events)) ((told ++ event ∷ []) ++ events))
          → (b : Bool) → brings_decision m setup (run_after m setup told) event ≡ b
          → Follows (core_after m setup told) home (core_after m setup ((told ++ event ∷ []) ++ events)) ((told ++ event ∷ []) ++ events)
      by_decision rest true decides =
          let ends = loses_where m good setup goods stores limits told event here_legal losses decides home
          (both_still_died (core_after m setup told) (core_after m setup told) told (event ∷ []) home refl refl refl died) in
          IsOver (
            ends.0,
            (
              ends.1.0,
              ap (λ r. r.core.outcome) (run_joined m setup (told ++ event ∷ []) events)
                  ∙ end_lasts m setup (run_after m setup (told ++ event ∷ [])) events _ ends.1.1,
            ),
          )
      by_decision rest false quiet =
          let now : core_after m setup (told ++ event ∷ []) ≡ between m setup (run_after m setup told) event =
          ap (λ r. r.core) (run_more m setup told event) ∙ quiet_core m setup (run_after m setup told) event quiet in
          by_rest _ (ap (λ s. s.epoch) now ∙ same.epoch)
          (rest (ap (λ s. s.outcome) now ∙ same.outcome ∙ none)
          (both_still_died (core_after m setup told) (core_after m setup (told ++ event ∷ [])) told (event ∷ []) home
          (ap (λ s. s.stored) now ∙ same.stored) (ap (λ s. s.epoch) now ∙ same.epoch) (ap (λ s. s.shift) now ∙ same.shift) died))

  -- so no other end comes
  pub only_lost : Losses → (journal more : List Event) (home : ℕ) → is_journal m setup (journal ++ more) ≡ true → (core_after m setup journal).outcome ≡ None
      → BothHoldersDied (core_after m setup journal) journal home → OnlyLoses (core_after m setup journal) (core_after m setup (journal ++ more))
  only_lost losses journal more home legal none died = by_follow (follows losses journal more home legal none died)
    where
      by_follow : Follows (core_after m setup journal) home (core_after m setup (journal ++ more)) (journal ++ more)
          → OnlyLoses (core_after m setup journal) (core_after m setup (journal ++ more))
      by_follow (StillLost still epoch _) = Undecided still epoch
      by_follow (IsOver (lost, (buddy, ends))) = HasLost lost buddy ends

  -- and no other decision
  pub decides_lost : Losses → (journal more : List Event) (event : Event) (home : ℕ) → is_journal m setup ((journal ++ more) ++ event ∷ []) ≡ true
      → (core_after m setup journal).outcome ≡ None → BothHoldersDied (core_after m setup journal) journal home
      → brings_decision m setup (run_after m setup (journal ++ more)) event ≡ true
      → EndsLost (core_after m setup journal).epoch.time (core_after m setup ((journal ++ more) ++ event ∷ []))
  decides_lost losses journal more event home legal none died decides = by_follow (follows losses journal more home before_legal none died)
    where
      before_legal : is_journal m setup (journal ++ more) ≡ true
      before_legal = (and_parts (is_journal m setup (journal ++ more)) _ (sym (journal_joined m setup (journal ++ more) (event ∷ [])) ∙ legal)).0

      by_follow : Follows (core_after m setup journal) home (core_after m setup (journal ++ more)) (journal ++ more)
          → EndsLost (core_after m setup journal).epoch.time (core_after m setup ((journal ++ more) ++ event ∷ []))
      by_follow (StillLost still epoch both) =
          subst (λ (e : Epoch). EndsLost e.time (core_after m setup ((journal ++ more) ++ event ∷ []))) epoch
          (loses_where m good setup goods stores limits (journal ++ more) event legal losses decides home
          (both_still_died (core_after m setup (journal ++ more)) (core_after m setup (journal ++ more)) (journal ++ more) (event ∷ []) home refl refl refl both))
      by_follow (IsOver (lost, (buddy, ends))) =
          absurd (let e : true ≡ false = sym decides ∙ quiet_end m setup (run_after m setup (journal ++ more)) event _ ends in cc)
