-- Each decision comes exactly where the rules say.
use Rattle.std.proofs.Common.{◌≡◌, ℕ, suc, ◌<◌, Bool, true, false, ◌||◌, not, List, [], ◌∷◌, length, arith, refl, sym, ◌∙◌, ap}
use Rattle.std.specs.Prelude.{◌==◌, ◌↔◌, Option, Some, None, if◌then◌else◌}
use Rattle.std.specs.List.{list_all, range_with_len}
use Rattle.std.proofs.Math.ListN.{get_or}
use Rattle.std.proofs.lemmas.Bool.{eqb-true, eq-eqb, not-true}
use Rattle.bf_buddy.specs.Members.{is_member}
use Rattle.bf_core.specs.declared.decision.Decision.{Decision}
use Rattle.bf_core.specs.declared.decision.Decision.TheVariants.{Lose, WantMemory, Commit, Restore}
use Rattle.bf_core.specs.declared.event.Event.{Event}
use Rattle.bf_core.specs.declared.event.Event.TheVariants.{Send, Recv, Arrive, Leave, Die}
use Rattle.bf_core.specs.declared.event.How.TheVariants as hows
use Rattle.bf_core.specs.declared.outcome.Outcome.{Outcome}
use Rattle.bf_core.specs.declared.outcome.Outcome.TheVariants as outcomes
use Rattle.bf_core.specs.declared.place.Place.{Place}
use Rattle.bf_core.specs.declared.standing.Stage.{Stage}
use Rattle.bf_core.specs.declared.standing.Stage.TheVariants.{Running, Arrived, Leaving, Ended, Dead, Gone}
use Rattle.bf_core.specs.declared.standing.Standing.{Standing}
use Rattle.bf_core.specs.Stages.{is_short, is_gone, has_finished_rounds}
use Rattle.bf_core.specs.States.{State, stage, first_lost, is_short_of_memory}
use Rattle.bf_core.specs.Legal.{is_legal, actor}
use Rattle.bf_core.specs.Next.{may_decide, happened, is_ripe, is_everyone_done, decision, decision_where, next, Decides}
use Rattle.bf_core.specs.Orders.{IsReached}
use Rattle.bf_core.specs.Laws.{DecidesWhole, SomebodyWants, AllAreDone, SomebodyIsUndone}
use Rattle.bf_core.proofs.ListLemmas.{all_at, fails_at, in_filtered}
use Rattle.bf_core.proofs.StageLemmas.{nobody, Someone, someone, someone_any, nobody_any, is_rank}
use Rattle.bf_core.proofs.SoundLemmas.{same_tests, not_gone, reached_sound}
use Rattle.bf_core.proofs.LawLemmas.{IsStep, step_of, same_epoch, running_where_ripe, ripe_decides, unripe_waits, next_settles, next_happens, decided_outcome, outcome_of, members_remain, passes}

-- the decision, by what it rests on

abbrev chosen : Option (ℕ × ℕ) → (short done : Bool) → Decision
chosen (Some lost) short done = Lose lost.0 lost.1
chosen None short done = if short then WantMemory else (if done then Commit else Restore)

decision_chosen : (state : State) → decision state ≡ chosen (first_lost state) (is_short_of_memory state) (is_everyone_done state)
unfolding decision
decision_chosen state = by_loss (first_lost state)
  where
    by_loss : (o : Option (ℕ × ℕ)) → decision_where o state ≡ chosen o (is_short_of_memory state) (is_everyone_done state)
    by_loss (Some lost) = refl
    by_loss None = refl

wants_when : (o : Option (ℕ × ℕ)) (short done : Bool) → chosen o short done ≡ WantMemory → (o ≡ None) × (short ≡ true)
wants_when (Some lost) short done loses = absurd (cc)
wants_when None true done _ = (refl, refl)
wants_when None false true commits = absurd (cc)
wants_when None false false restores = absurd (cc)

commits_when : (o : Option (ℕ × ℕ)) (short done : Bool) → chosen o short done ≡ Commit → (o ≡ None) × ((short ≡ false) × (done ≡ true))
commits_when (Some lost) short done loses = absurd (cc)
commits_when None true done wants = absurd (cc)
commits_when None false true _ = (refl, (refl, refl))
commits_when None false false restores = absurd (cc)

restores_when : (o : Option (ℕ × ℕ)) (short done : Bool) → chosen o short done ≡ Restore → (o ≡ None) × ((short ≡ false) × (done ≡ false))
restores_when (Some lost) short done loses = absurd (cc)
restores_when None true done wants = absurd (cc)
restores_when None false true commits = absurd (cc)
restores_when None false false _ = (refl, (refl, refl))

-- want of memory is decided where no part is lost and a member wants it
pub decision_wants : (state : State) → decision state ≡ WantMemory → (first_lost state ≡ None) × (is_short_of_memory state ≡ true)
decision_wants state wants = wants_when (first_lost state) (is_short_of_memory state) (is_everyone_done state) (sym (decision_chosen state) ∙ wants)

decides : (state : State) (short done : Bool) → first_lost state ≡ None → is_short_of_memory state ≡ short → is_everyone_done state ≡ done → decision state ≡ chosen None short done
decides state short done whole is_so is_done =
    decision_chosen state ∙ ap (λ o. chosen o (is_short_of_memory state) (is_everyone_done state)) whole
    ∙ ap (λ b. chosen None b (is_everyone_done state)) is_so ∙ ap (chosen None short) is_done

-- who is done wants no memory
done_fits : (s : Stage) → (is_gone s || has_finished_rounds s) ≡ true → is_short s ≡ false
done_fits Running still = absurd (cc)
done_fits (Arrived hows.Done filled) _ = refl
done_fits (Arrived hows.Broken filled) still = absurd (cc)
done_fits (Arrived hows.Memory filled) still = absurd (cc)
done_fits Leaving still = absurd (cc)
done_fits Ended still = absurd (cc)
done_fits Dead still = absurd (cc)
done_fits Gone _ = refl

nobody_short : (state : State) → is_everyone_done state ≡ true → is_short_of_memory state ≡ false
nobody_short state done = by_any (is_short_of_memory state) refl
  where
    by_any : (b : Bool) → is_short_of_memory state ≡ b → b ≡ false
    by_any false _ = refl
    by_any true some =
        let one : Someone is_short state = someone is_short state some in
        let e : true ≡ false = sym one.1.1 ∙ done_fits (stage state one.0)
        (all_at (λ s. is_gone s.stage || has_finished_rounds s.stage) state.standings one.0 nobody refl done) in absurd (cc)

-- all pass a test where each does
every : (test : Standing → Bool) (xs : List Standing) → ((i : ℕ) → i < length xs → test (get_or xs i nobody) ≡ true) → list_all test xs ≡ true
every test [] each = refl
every test (x ∷ xs) each = rw (each 0 (omega arith)) (every test xs (λ i within. each (suc i) (omega (arith, within))))

-- the members of a reached state, seen from an event that decides
module _ (state : State) (event : Event) (place : Place) (filled : Bool) (reached : IsReached state) (legal : is_legal state event place ≡ true)
    (ripe : is_ripe (happened state event filled) ≡ true) where
  step : IsStep state event filled
  step = step_of state event place filled legal

  none : state.outcome ≡ None
  none = sym (same_epoch state event filled).outcome ∙ running_where_ripe (happened state event filled) ripe

  gone_before : (rank : ℕ) → is_gone (stage (happened state event filled) rank) ≡ is_gone (stage state rank)
  gone_before rank = same_tests is_gone state (happened state event filled) (actor event) step.to step.moved (step.stays ∙ sym (not_gone (stage state (actor event)) step.went)) rank

  -- a member is not gone
  member_here : (rank : ℕ) → is_member state.epoch.members rank ≡ true → is_gone (stage (happened state event filled) rank) ≡ false
  member_here rank member =
      gone_before rank ∙ not-true (is_gone (stage state rank)) (passes (λ r. not (is_gone (stage state r))) (range_with_len 0 state.ranks) rank
      (ap (λ members. is_member members rank) (sym (members_remain state reached none)) ∙ member))

  -- who is not gone is a member
  here_member : (rank : ℕ) → is_gone (stage (happened state event filled) rank) ≡ false → is_member state.epoch.members rank ≡ true
  here_member rank here =
      let remains : is_gone (stage state rank) ≡ false = sym (gone_before rank) ∙ here in
      ap (λ members. is_member members rank) (members_remain state reached none)
      ∙ in_filtered (λ r. not (is_gone (stage state r))) 0 state.ranks rank (omega arith)
      (omega (arith, is_rank (λ s. not (is_gone s)) state rank refl (ap not remains), (reached_sound state reached).size)) (ap not remains)

  all_done : AllAreDone state.epoch.members (happened state event filled) → is_everyone_done (happened state event filled) ≡ true
  all_done each = every (λ s. is_gone s.stage || has_finished_rounds s.stage) (happened state event filled).standings
      (λ rank within. by_gone rank (is_gone (stage (happened state event filled) rank)) refl)
    where
      by_gone : (rank : ℕ) (b : Bool) → is_gone (stage (happened state event filled) rank) ≡ b → (b || has_finished_rounds (stage (happened state event filled) rank)) ≡ true
      by_gone rank true _ = refl
      by_gone rank false here = each rank (here_member rank here)

  each_done : is_everyone_done (happened state event filled) ≡ true → AllAreDone state.epoch.members (happened state event filled)
  each_done done rank member = by_gone (is_gone (stage (happened state event filled) rank)) (member_here rank member)
      (all_at (λ s. is_gone s.stage || has_finished_rounds s.stage) (happened state event filled).standings rank nobody refl done)
    where
      by_gone : (b : Bool) → b ≡ false → (b || has_finished_rounds (stage (happened state event filled) rank)) ≡ true → has_finished_rounds (stage (happened state event filled) rank) ≡ true
      by_gone true gone _ = absurd (cc)
      by_gone false _ done_there = done_there

  some_undone : is_everyone_done (happened state event filled) ≡ false → SomebodyIsUndone state.epoch.members (happened state event filled)
  some_undone undone =
      let one = fails_at {X = Standing} (λ s. is_gone s.stage || has_finished_rounds s.stage) (happened state event filled).standings nobody undone in
      (one.0, (here_member one.0 (neither_gone _ _ one.1.1), neither_done (is_gone (stage (happened state event filled) one.0)) _ one.1.1))
    where
      neither_gone : (a b : Bool) → (a || b) ≡ false → a ≡ false
      neither_gone true b still = absurd (cc)
      neither_gone false b _ = refl

      neither_done : (a b : Bool) → (a || b) ≡ false → b ≡ false
      neither_done true b still = absurd (cc)
      neither_done false b fails = fails

  not_everyone : SomebodyIsUndone state.epoch.members (happened state event filled) → is_everyone_done (happened state event filled) ≡ false
  not_everyone (rank, (member, undone)) = by_any (is_everyone_done (happened state event filled)) refl
    where
      by_any : (b : Bool) → is_everyone_done (happened state event filled) ≡ b → b ≡ false
      by_any false _ = refl
      by_any true done = absurd (let e : true ≡ false = sym (each_done done rank member) ∙ undone in cc)

nobody_wants : (state : State) → (SomebodyWants state → ⊥) → is_short_of_memory state ≡ false
nobody_wants state fits = by_any (is_short_of_memory state) refl
  where
    by_any : (b : Bool) → is_short_of_memory state ≡ b → b ≡ false
    by_any false _ = refl
    by_any true some = let one : Someone is_short state = someone is_short state some in absurd (fits (one.0, one.1.1))

somebody_wants : (state : State) → SomebodyWants state → is_short_of_memory state ≡ true
somebody_wants state (rank, short) = someone_any is_short state (rank, (is_rank is_short state rank refl short, short))

-- a commit is decided exactly where no part is lost and all are done
pub commits_where : (state : State) (event : Event) (place : Place) (filled : Bool) → IsReached state → is_legal state event place ≡ true
    → (Decides state event filled Commit ↔ (DecidesWhole state event filled × AllAreDone state.epoch.members (happened state event filled)))
commits_where state event place filled reached legal = (
  (λ made.
      let when = commits_when (first_lost (happened state event filled)) _ _ (sym (decision_chosen (happened state event filled)) ∙ made.is_made) in
      (record { may = made.may; ripe = made.ripe; whole = when.0 }, each_done state event place filled reached legal made.ripe when.1.1)),
  (λ (where_whole, done).
      let all = all_done state event place filled reached legal where_whole.ripe done in
      record {
        may = where_whole.may;
        ripe = where_whole.ripe;
        is_made = decides (happened state event filled) false true where_whole.whole (nobody_short (happened state event filled) all) all;
      }),
)

-- a restore is decided exactly where no part is lost, nobody wants memory and some are not done
pub restores_where : (state : State) (event : Event) (place : Place) (filled : Bool) → IsReached state → is_legal state event place ≡ true
    → (Decides state event filled Restore
    ↔ (DecidesWhole state event filled × ((SomebodyWants (happened state event filled) → ⊥) × SomebodyIsUndone state.epoch.members (happened state event filled))))
restores_where state event place filled reached legal = (
  (λ made.
      let when = restores_when (first_lost (happened state event filled)) _ _ (sym (decision_chosen (happened state event filled)) ∙ made.is_made) in (
        record { may = made.may; ripe = made.ripe; whole = when.0 },
        (
          (λ (rank, short). let e : true ≡ false = sym short ∙ nobody_any is_short (happened state event filled) refl when.1.0 rank in cc),
          some_undone state event place filled reached legal made.ripe when.1.1,
        ),
      )),
  (λ (where_whole, (fits, undone)). record {
    may = where_whole.may;
    ripe = where_whole.ripe;
    is_made = decides (happened state event filled) false false where_whole.whole (nobody_wants (happened state event filled) fits)
        (not_everyone state event place filled reached legal where_whole.ripe undone);
  }),
)

-- an outcome comes of the decision that an event brings
outcome_decided : (state : State) (event : Event) (filled : Bool) (outcome : Outcome) → state.outcome ≡ None → (next state event filled).outcome ≡ Some outcome
    → (may_decide event ≡ true) × ((is_ripe (happened state event filled) ≡ true) × (outcome_of (happened state event filled) (decision (happened state event filled)) ≡ Some outcome))
outcome_decided state event filled outcome none ends = by_event (may_decide event) refl
  where
    quiet : (happened state event filled).outcome ≡ Some outcome → ⊥
    quiet had = let e : None ≡ Some outcome = sym none ∙ sym (same_epoch state event filled).outcome ∙ had in cc

    by_ripe : may_decide event ≡ true → (b : Bool) → is_ripe (happened state event filled) ≡ b
        → (may_decide event ≡ true) × ((is_ripe (happened state event filled) ≡ true) × (outcome_of (happened state event filled) (decision (happened state event filled)) ≡ Some outcome))
    by_ripe may true ripe = (
      may,
      (
        ripe,
        sym (decided_outcome (happened state event filled) (decision (happened state event filled)))
            ∙ ap (λ s. s.outcome) (sym (next_settles state event filled may ∙ ripe_decides (happened state event filled) ripe)) ∙ ends,
      ),
    )
    by_ripe may false unripe =
        absurd (quiet (ap (λ s. s.outcome) (sym (next_settles state event filled may ∙ unripe_waits (happened state event filled) unripe)) ∙ ends))

    by_event : (b : Bool) → may_decide event ≡ b
        → (may_decide event ≡ true) × ((is_ripe (happened state event filled) ≡ true) × (outcome_of (happened state event filled) (decision (happened state event filled)) ≡ Some outcome))
    by_event true may = by_ripe may (is_ripe (happened state event filled)) refl
    by_event false may = absurd (quiet (ap (λ s. s.outcome) (sym (next_happens state event filled may)) ∙ ends))

decision_outcome : (state : State) (event : Event) (filled : Bool) (made : Decision) → may_decide event ≡ true → is_ripe (happened state event filled) ≡ true
    → decision (happened state event filled) ≡ made → (next state event filled).outcome ≡ outcome_of (happened state event filled) made
decision_outcome state event filled made may ripe is_made =
    ap (λ s. s.outcome) (next_settles state event filled may ∙ ripe_decides (happened state event filled) ripe)
    ∙ decided_outcome (happened state event filled) (decision (happened state event filled)) ∙ ap (outcome_of (happened state event filled)) is_made

-- which decision ends a run so

pub ends_memory : (state : State) (made : Decision) → state.outcome ≡ None → outcome_of state made ≡ Some outcomes.Memory → made ≡ WantMemory
ends_memory state (Lose home buddy) none ends = absurd (cc)
ends_memory state WantMemory none _ = refl
ends_memory state Commit none ends = at_end (state.epoch.target == state.steps) ends
  where
    at_end : (b : Bool) → (if b then Some outcomes.Finished else state.outcome) ≡ Some outcomes.Memory → Commit ≡ WantMemory
    at_end true finished = absurd (cc)
    at_end false on = absurd (let e : None ≡ Some outcomes.Memory = sym none ∙ on in cc)
ends_memory state Restore none ends = absurd (let e : None ≡ Some outcomes.Memory = sym none ∙ ends in cc)

ends_finished : (state : State) (made : Decision) → state.outcome ≡ None → outcome_of state made ≡ Some outcomes.Finished → (made ≡ Commit) × (state.epoch.target ≡ state.steps)
ends_finished state (Lose home buddy) none ends = absurd (cc)
ends_finished state WantMemory none ends = absurd (cc)
ends_finished state Commit none ends = (refl, at_end (state.epoch.target == state.steps) refl ends)
  where
    at_end : (b : Bool) → (state.epoch.target == state.steps) ≡ b → (if b then Some outcomes.Finished else state.outcome) ≡ Some outcomes.Finished → state.epoch.target ≡ state.steps
    at_end true last _ = eqb-true state.epoch.target state.steps last
    at_end false _ on = absurd (let e : None ≡ Some outcomes.Finished = sym none ∙ on in cc)
ends_finished state Restore none ends = absurd (let e : None ≡ Some outcomes.Finished = sym none ∙ ends in cc)

-- a run ends for want of memory exactly where no part is lost and somebody wants it
pub wants_where : (state : State) (event : Event) (filled : Bool) → state.outcome ≡ None
    → ((next state event filled).outcome ≡ Some outcomes.Memory ↔ (DecidesWhole state event filled × SomebodyWants (happened state event filled)))
wants_where state event filled none = (
  (λ ends.
      let found = outcome_decided state event filled outcomes.Memory none ends in
      let when = decision_wants (happened state event filled)
      (ends_memory (happened state event filled) _ ((same_epoch state event filled).outcome ∙ none) found.1.1) in
      let one : Someone is_short (happened state event filled) = someone is_short (happened state event filled) when.1 in
      (record { may = found.0; ripe = found.1.0; whole = when.0 }, (one.0, one.1.1))),
  (λ (where_whole, short).
      decision_outcome state event filled WantMemory where_whole.may where_whole.ripe
      (decides (happened state event filled) true (is_everyone_done (happened state event filled)) where_whole.whole (somebody_wants (happened state event filled) short) refl)),
)

target_stays : (state : State) (event : Event) (filled : Bool) → (happened state event filled).epoch.target ≡ state.epoch.target
target_stays state event filled = ap (λ e. e.target) (same_epoch state event filled).epoch

steps_stay : (state : State) (event : Event) (filled : Bool) → (happened state event filled).steps ≡ state.steps
steps_stay state (Send rank to blocks sum) filled = refl
steps_stay state (Recv rank peer) filled = refl
steps_stay state (Arrive rank how) filled = refl
steps_stay state (Leave rank) filled = refl
steps_stay state (Die rank) filled = refl

-- a run finishes exactly where a commit is decided in its last epoch
pub finishes_where : (state : State) (event : Event) (place : Place) (filled : Bool) → IsReached state → is_legal state event place ≡ true → state.outcome ≡ None
    → ((next state event filled).outcome ≡ Some outcomes.Finished
    ↔ (DecidesWhole state event filled × (AllAreDone state.epoch.members (happened state event filled) × (state.epoch.target ≡ state.steps))))
finishes_where state event place filled reached legal none = (
  (λ ends.
      let found = outcome_decided state event filled outcomes.Finished none ends in
      let last = ends_finished (happened state event filled) _ ((same_epoch state event filled).outcome ∙ none) found.1.1 in
      let commits = (commits_where state event place filled reached legal).0 (record { may = found.0; ripe = found.1.0; is_made = last.0 }) in
      (commits.0, (commits.1, sym (target_stays state event filled) ∙ last.1 ∙ steps_stay state event filled))),
  (λ (where_whole, (done, last)).
      let commits = (commits_where state event place filled reached legal).1 (where_whole, done) in
      decision_outcome state event filled Commit where_whole.may where_whole.ripe commits.is_made
      ∙ ap (λ b. if b then Some outcomes.Finished else (happened state event filled).outcome)
      (eq-eqb (happened state event filled).epoch.target (happened state event filled).steps (target_stays state event filled ∙ last ∙ sym (steps_stay state event filled)))),
)
