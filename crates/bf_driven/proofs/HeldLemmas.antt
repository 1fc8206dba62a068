-- What ranks have of the agreed snapshot, by their accounts.
use Rattle.std.proofs.Common.{◌≡◌, ℕ, Bool, true, false, cond, List, [], ◌∷◌, ◌++◌, map, filter, Option, Some, None, Contains, refl, sym, subst, ◌∙◌, ap, arith}
use Rattle.std.specs.Prelude.{◌==◌, ◌&&◌, not, IsTrue, if◌then◌else◌}
use Rattle.std.specs.List.{zip}
use Rattle.std.proofs.lemmas.Bool.{eqb-true, or_parts}
use Rattle.std.proofs.lemmas.List.Elements.{All-contains}
use Rattle.std.proofs.lemmas.Option.{same_Some}
use Rattle.bf_id.specs.Id.{BlockId}
use Rattle.bf_case.specs.declared.case.Case.{Case}
use Rattle.bf_case.proofs.ListLemmas.{Contains-map}
use Rattle.bf_buddy.specs.Members.{is_member}
use Rattle.bf_buddy.proofs.MemberLemmas.{member_filter_parts}
use Rattle.bf_program.specs.declared.epoch.Epoch.{Epoch}
use Rattle.bf_program.specs.Lockstep.{local_of}
use Rattle.bf_program.specs.Restores.{restored_epoch, restored_locals}
use Rattle.bf_core.specs.declared.decision.Decision.{Decision}
use Rattle.bf_core.specs.declared.decision.Decision.TheVariants.{Lose, WantMemory, Commit, Restore}
use Rattle.bf_core.specs.declared.event.Event.{Event}
use Rattle.bf_core.specs.Legal.{actor}
use Rattle.bf_core.specs.Next.{may_decide, is_ripe, decision, decided, dissolved}
use Rattle.bf_core.proofs.LawLemmas.{same_epoch}
use Rattle.bf_core.specs.declared.outcome.Outcome.TheVariants.{Finished}
use Rattle.bf_core.specs.declared.standing.Stage.{Stage}
use Rattle.bf_core.specs.declared.standing.Stage.TheVariants.{Running, Arrived, Leaving, Ended, Dead, Gone}
use Rattle.bf_core.specs.Stages.{is_leaving, goes_on, lives}
use Rattle.bf_core.specs.States.{stage, live_members}
use Rattle.bf_world.specs.Snapshots.{is_commit, brings_commit}
use Rattle.bf_world.specs.Worlds.{brings_decision}
use Rattle.bf_world.proofs.RunLemmas.{run_joined}
use Rattle.bf_world.specs.Runs.{Run, last_locals, will_be_filled, run_happened, run_decided, next_run, run_from, run_after}
use Rattle.bf_rank.specs.declared.stand.Stand.{Stand}
use Rattle.bf_rank.specs.declared.stand.Stand.TheVariants as stands
use Rattle.bf_rank.specs.Ranks.{RankView, Sight, sight, Agrees, HasLocal, IsSaved, WillBegin}
use Rattle.bf_owners.proofs.TotalLemmas.{no_seat}
use Rattle.bf_rounds.proofs.VectorLemmas.{told_local}
use Rattle.bf_parts.specs.declared.side.Side.{Side}
use Rattle.bf_parts.specs.Leaves.{AreAmong, side_at}
use Rattle.bf_msg.specs.declared.linked_block.LinkedBlock.{LinkedBlock}
use Rattle.bf_forest.specs.declared.local.ForestLocal.{ForestLocal}
use Rattle.bf_forest.specs.declared.setup.Setup.{Setup}
use Rattle.bf_forest.specs.Goods.{AreDealt, HasParts, IsGood, local_at}
use Rattle.bf_forest.specs.Meanings.{forest}
use Rattle.bf_block.specs.declared.point.Point.{Point}
use Rattle.bf_forest.specs.ModelBlocks.{blocks_at, blocks_on}
use Rattle.bf_forest.specs.Setup.{case_of, every_setup_is_valid}
use Rattle.bf_forest.specs.StageLaws.{point_end, rounds_are}
use Rattle.bf_forest.specs.Stages.{forest_plan}
use Rattle.bf_forest.specs.Staging.{Runs}
use Rattle.bf_forest.specs.SnapshotLaws.{all_have_new}
use Rattle.bf_forest.specs.StripLaws.{member_contains}
use Rattle.bf_forest.specs.VectorLaws.{parts_at}
use Rattle.bf_stages.specs.Plans.{rounds_of}
use Rattle.bf_driven.specs.Held.{agreed_side, commits_in, HoldsParts}

-- a rank has on such a side its parts of a snapshot, as they are told by the homes
abbrev pub IsSide : (setup : Setup) (time : ℕ) (homes : List ℕ) (home : BlockId → ℕ) (rank : ℕ) → Side LinkedBlock → Type 0
IsSide setup time homes home rank side =
    HasParts (case_of setup) time homes home rank side × (side ≡ side_at time homes (case_of setup).shift (blocks_at (case_of setup) time) home rank)

-- a member's local, and what it has of the snapshots
pub its_agreed : (setup : Setup) (epoch : Epoch) (round : ℕ) (owner home : BlockId → ℕ) (locals : List ForestLocal) (rank : ℕ) (local : ForestLocal)
    → AreDealt (case_of setup) epoch round owner home locals → local_of epoch.members locals rank ≡ Some local
    → IsSide setup epoch.time epoch.homes home rank local.buffers.active
its_agreed setup epoch round owner home locals rank local dealt its =
    let c : Case = case_of setup in
    let at = told_local (local_at c epoch round owner home) epoch.members rank local (subst (λ (ls : List ForestLocal). local_of epoch.members ls rank ≡ Some local) dealt.are its) in
    subst (λ (l : ForestLocal). IsSide setup epoch.time epoch.homes home rank l.buffers.active) (sym at.1)
    (parts_at c epoch.time epoch.homes home rank (every_setup_is_valid setup) dealt.held.homes_rise (dealt.held.among rank at.0), refl)

pub its_new : (setup : Setup) (epoch : Epoch) (owner home : BlockId → ℕ) (locals : List ForestLocal) (rank : ℕ) (local : ForestLocal) → Runs (case_of setup) epoch
    → AreDealt (case_of setup) epoch (rounds_of forest_plan epoch) owner home locals → local_of epoch.members locals rank ≡ Some local
    → HasParts (case_of setup) epoch.target epoch.members owner rank local.buffers.spare
its_new setup epoch owner home locals rank local runs dealt its =
    let c : Case = case_of setup in
    let told : ℕ → ForestLocal = local_at c epoch (rounds_of forest_plan epoch) owner home in
    let at = told_local told epoch.members rank local (subst (λ (ls : List ForestLocal). local_of epoch.members ls rank ≡ Some local) dealt.are its) in
    let there : Contains locals (told rank) =
    subst (λ (ls : List ForestLocal). Contains ls (told rank)) (sym dealt.are) (Contains-map told epoch.members rank (member_contains epoch.members rank at.0)) in
    subst (λ (l : ForestLocal). HasParts c epoch.target epoch.members owner rank l.buffers.spare) (sym at.1)
    (All-contains (λ (l : ForestLocal). HasParts c epoch.target epoch.members owner l.rank l.buffers.spare) locals (told rank) (all_have_new setup epoch owner home locals runs dealt) there)

-- a rank that must leave has arrived, by its account
pub leaving_has : (setup : Setup) (seen : Sight ForestLocal) (view : RankView ForestLocal) (stand : Stand) → IsTrue (is_leaving seen.stage) → Agrees forest IsGood setup seen view stand
    → HasLocal forest IsGood setup seen view Leaving
leaving_has setup seen view stands.Opening leaves agrees = absurd (let no : IsTrue false = subst (λ s. IsTrue (is_leaving s)) agrees.0 leaves in cc)
leaving_has setup seen view (stands.Placed at) leaves agrees = absurd (let no : IsTrue false = subst (λ s. IsTrue (is_leaving s)) agrees.0 leaves in cc)
leaving_has setup seen view stands.Arrived leaves agrees = by_stage seen.stage leaves agrees
  where
    by_stage : (s : Stage) → IsTrue (is_leaving s) → HasLocal forest IsGood setup seen view s → HasLocal forest IsGood setup seen view Leaving
    by_stage Leaving leaves has = has
    by_stage Running leaves has = absurd has
    by_stage (Arrived how filled) leaves has = absurd (cc)
    by_stage Ended leaves has = absurd has
    by_stage Dead leaves has = absurd has
    by_stage Gone leaves has = absurd has
leaving_has setup seen view stands.Failed leaves agrees = absurd (let no : IsTrue false = subst (λ s. IsTrue (is_leaving s)) agrees.0 leaves in cc)
leaving_has setup seen view stands.Ended leaves agrees = by_stage seen.stage leaves agrees
  where
    by_stage : (s : Stage) → IsTrue (is_leaving s) → goes_on s ≡ false → HasLocal forest IsGood setup seen view Leaving
    by_stage Leaving leaves goes = absurd (cc)
    by_stage Running leaves goes = absurd (cc)
    by_stage (Arrived how filled) leaves goes = absurd (cc)
    by_stage Ended leaves goes = absurd (cc)
    by_stage Dead leaves goes = absurd (cc)
    by_stage Gone leaves goes = absurd (cc)

-- a member's local among chosen and changed ones comes of its local before
chosen_before : {L N : Type 0} (f : ℕ × L → N) (test : ℕ → Bool) (members : List ℕ) (locals : List L) (rank : ℕ) (after : N) → test rank ≡ true
    → local_of (filter test members) (map f (filter (λ seat. test seat.0) (zip members locals))) rank ≡ Some after
    → (local : L) × ((local_of members locals rank ≡ Some local) × (after ≡ f (rank, local)))
chosen_before f test [] locals rank after passes its = absurd (cc)
chosen_before {N = N} f test (x ∷ xs) [] rank after passes its = absurd (by_test (test x) its)
  where
    by_test : (t : Bool) → local_of {L = N} (cond t (x ∷ filter test xs) (filter test xs)) [] rank ≡ Some after → ⊥
    by_test true none = cc
    by_test false none = by_rest (filter test xs) none
      where
        by_rest : (members : List ℕ) → local_of {L = N} members [] rank ≡ Some after → ⊥
        by_rest [] none = cc
        by_rest (y ∷ ys) none = cc
chosen_before {L = L} {N = N} f test (x ∷ xs) (l ∷ ls) rank after passes its = by_test (chosen_before f test xs ls rank after passes) (test x) refl (x == rank) refl its
  where
    by_test : (local_of (filter test xs) (map f (filter (λ seat. test seat.0) (zip xs ls))) rank ≡ Some after → (local : L) × ((local_of xs ls rank ≡ Some local) × (after ≡ f (rank, local))))
        → (t : Bool) → test x ≡ t → (b : Bool) → (x == rank) ≡ b
        → local_of (cond t (x ∷ filter test xs) (filter test xs)) (map f (cond t ((x, l) ∷ filter (λ seat. test seat.0) (zip xs ls)) (filter (λ seat. test seat.0) (zip xs ls)))) rank ≡ Some after
        → (local : L) × ((cond b (Some l) (local_of xs ls rank) ≡ Some local) × (after ≡ f (rank, local)))
    by_test rest true kept true same is_it =
        let later : Option N = local_of (filter test xs) (map f (filter (λ seat. test seat.0) (zip xs ls))) rank in
        (l, (refl, sym (same_Some (f (x, l)) after (ap (λ b. cond b (Some (f (x, l))) later) (sym same) ∙ is_it)) ∙ ap (λ r. f (r, l)) (eqb-true x rank same)))
    by_test rest true kept false other is_it =
        let later : Option N = local_of (filter test xs) (map f (filter (λ seat. test seat.0) (zip xs ls))) rank in
        rest (ap (λ b. cond b (Some (f (x, l))) later) (sym other) ∙ is_it)
    by_test rest false dropped true same is_it = absurd (let e : true ≡ false = sym passes ∙ ap test (sym (eqb-true x rank same)) ∙ dropped in cc)
    by_test rest false dropped false other is_it = rest is_it

-- who has a local among chosen ones is chosen
is_chosen : {L : Type 0} (test : ℕ → Bool) (members : List ℕ) (locals : List L) (rank : ℕ) (local : L) → local_of (filter test members) locals rank ≡ Some local
    → test rank ≡ true
is_chosen test members locals rank local its = by_seat (is_member (filter test members) rank) refl
  where
    by_seat : (b : Bool) → is_member (filter test members) rank ≡ b → test rank ≡ true
    by_seat true is_in = (member_filter_parts test members rank is_in).1
    by_seat false out = absurd (let e : None ≡ Some local = sym (no_seat (filter test members) locals rank out) ∙ its in cc)

module _ (setup : Setup) (time : ℕ) (homes : List ℕ) (home : BlockId → ℕ) where
  -- as an epoch begins, each member has on its active side its parts of a snapshot
  abbrev HoldFirst : (members : List ℕ) (start : List ForestLocal) → Type 0
  HoldFirst members start = (rank : ℕ) (local : ForestLocal) → local_of members start rank ≡ Some local → IsSide setup time homes home rank local.buffers.active

  -- and so do those of a run
  abbrev pub Begins : Run ForestLocal (List LinkedBlock) → Type 0
  Begins run = HoldFirst run.core.epoch.members run.start

  -- members that are restored keep them
  restored_hold : (epoch : Epoch) (lives : ℕ → Bool) (start : List ForestLocal) → HoldFirst epoch.members start
      → HoldFirst (filter lives epoch.members) (restored_locals forest setup epoch lives start)
  unfolding restored_locals
  restored_hold epoch lives start begins rank local its =
      let from = chosen_before (λ seat. forest.restore setup seat.1 seat.0 (restored_epoch lives epoch)) lives epoch.members start rank local
      (is_chosen lives epoch.members _ rank local its) its in
      subst (λ (l : ForestLocal). IsSide setup time homes home rank l.buffers.active) (sym from.1.1) (begins rank from.0 from.1.0)

  -- no decision but a commit changes them
  decided_holds : (run : Run ForestLocal (List LinkedBlock)) (made : Decision) → is_commit true made ≡ false → Begins run → Begins (run_decided forest setup run made)
  unfolding decided dissolved live_members
  decided_holds run (Lose lost buddy) other begins = begins
  decided_holds run WantMemory other begins = begins
  decided_holds run Commit other begins = absurd (cc)
  decided_holds run Restore other begins = restored_hold run.core.epoch (λ rank. lives (stage run.core rank)) run.start begins

  -- nor does an event before its decision
  happened_holds : (run : Run ForestLocal (List LinkedBlock)) (event : Event) → Begins run → Begins (run_happened forest setup run event)
  happened_holds run event begins =
      subst (λ epoch. HoldFirst epoch.members run.start) (sym (same_epoch run.core event (will_be_filled forest setup run (actor event))).epoch) begins

  -- so an event that brings no commit changes none
  next_holds : (run : Run ForestLocal (List LinkedBlock)) (event : Event) → brings_commit forest setup run event ≡ false → Begins run → Begins (next_run forest setup run event)
  unfolding brings_commit brings_decision next_run
  next_holds run event other begins = by_event (may_decide event) (is_ripe (run_happened forest setup run event).core) other
    where
      by_event : (may ripe : Bool) → is_commit (may && ripe) (decision (run_happened forest setup run event).core) ≡ false
          → Begins (if may then (if ripe then run_decided forest setup (run_happened forest setup run event) (decision (run_happened forest setup run event).core)
          else run_happened forest setup run event) else run_happened forest setup run event)
      by_event true true other = decided_holds (run_happened forest setup run event) (decision (run_happened forest setup run event).core) other (happened_holds run event begins)
      by_event true false _ = happened_holds run event begins
      by_event false ripe _ = happened_holds run event begins

  from_holds : (run : Run ForestLocal (List LinkedBlock)) (events : List Event) → commits_in setup run events ≡ false → Begins run → Begins (run_from forest setup run events)
  from_holds run [] quiet begins = begins
  from_holds run (event ∷ events) quiet begins =
      let parts = or_parts (brings_commit forest setup run event) (commits_in setup (next_run forest setup run event) events) quiet in
      from_holds (next_run forest setup run event) events parts.1 (next_holds run event parts.0 begins)

  -- nor do more events of which none brings one
  pub held_later : (journal later : List Event) → commits_in setup (run_after forest setup journal) later ≡ false → Begins (run_after forest setup journal)
      → Begins (run_after forest setup (journal ++ later))
  held_later journal later quiet begins = subst Begins (sym (run_joined forest setup journal later)) (from_holds (run_after forest setup journal) later quiet begins)

-- in a run that goes on
module _ (setup : Setup) (time : ℕ) (homes : List ℕ) (home : BlockId → ℕ) (run : Run ForestLocal (List LinkedBlock)) (begins : Begins setup time homes home run)
    (view : RankView ForestLocal) where
  abbrev seen : Sight ForestLocal
  seen = sight run view.rank

  abbrev Holds : Type 0
  Holds = (has : HoldsParts (case_of setup) time homes home (agreed_side run.core view.rank) view)
      × (agreed_side run.core view.rank has.local.buffers ≡ side_at time homes (case_of setup).shift (blocks_at (case_of setup) time) home view.rank)

  abbrev Parts : ForestLocal → (leaves restored : Bool) → Type 0
  Parts local leaves restored = IsSide setup time homes home view.rank (cond (leaves && not restored) local.buffers.spare local.buffers.active)

  held_staying : is_leaving (stage run.core view.rank) ≡ false → (local : ForestLocal) → view.local ≡ Some local → IsSaved forest IsGood setup seen view.rank local → Holds
  held_staying stays local is saved =
      let parts : Parts local (is_leaving (stage run.core view.rank)) run.core.epoch.restored =
      subst (λ leaves. Parts local leaves run.core.epoch.restored) (sym stays)
      (subst (IsSide setup time homes home view.rank) (sym saved.same) (begins view.rank saved.first saved.its)) in
      (record { local = local; its = is; parts = parts.0 }, parts.1)

  held_leaving : is_leaving (stage run.core view.rank) ≡ true → run.core.outcome ≡ None → HasLocal forest IsGood setup seen view Leaving → Holds
  held_leaving leaves goes has =
      let local : ForestLocal = (has.0 goes).1.0 in
      let parts : Parts local (is_leaving (stage run.core view.rank)) run.core.epoch.restored =
      subst (λ b. Parts local b run.core.epoch.restored) (sym leaves) (by_restore local run.core.epoch.restored (has.0 goes).1.1.1) in
      (record { local = local; its = (has.0 goes).1.1.0; parts = parts.0 }, parts.1)
    where
      by_restore : (local : ForestLocal) (restored : Bool) → WillBegin forest IsGood setup restored seen view.rank local → Parts local true restored
      by_restore local false will = begins view.rank (forest.keep local) will
      by_restore local true will = begins view.rank (forest.restore setup local view.rank run.core.epoch) will.1

  pub held_by : (leaves : Bool) → is_leaving (stage run.core view.rank) ≡ leaves → run.core.outcome ≡ None → (is_leaving (stage run.core view.rank) ≡ true → HasLocal forest IsGood setup seen view Leaving)
      → (is_leaving (stage run.core view.rank) ≡ false → (local : ForestLocal) × ((view.local ≡ Some local) × IsSaved forest IsGood setup seen view.rank local)) → Holds
  held_by true is goes has keeps = held_leaving is goes (has is)
  held_by false is goes has keeps = let kept = keeps is in held_staying is kept.0 kept.1.0 kept.1.1

-- once a run has finished
pub held_finished : (setup : Setup) (run : Run ForestLocal (List LinkedBlock)) (owner home : BlockId → ℕ) (view : RankView ForestLocal) → Runs (case_of setup) run.core.epoch
    → AreDealt (case_of setup) run.core.epoch (rounds_of forest_plan run.core.epoch) owner home (last_locals forest setup run) → run.core.outcome ≡ Some Finished
    → HasLocal forest IsGood setup (sight run view.rank) view Leaving
    → HoldsParts (case_of setup) run.core.epoch.target run.core.epoch.members owner (λ buffers. buffers.spare) view
unfolding last_locals
held_finished setup run owner home view runs dealt finished has =
    let local : ForestLocal = (has.1 finished).0 in
    let last : ForestLocal = (has.1 finished).1.1.last in
    let parts = its_new setup run.core.epoch owner home (last_locals forest setup run) view.rank last runs dealt (has.1 finished).1.1.its in
    record {
      local = local;
      its = (has.1 finished).1.0;
      parts = subst (λ (l : ForestLocal). HasParts (case_of setup) run.core.epoch.target run.core.epoch.members owner view.rank l.buffers.spare) (sym (has.1 finished).1.1.here)
          (by_parcel last (run.core.epoch.target == run.core.steps) parts);
    }
  where
    by_parcel : (last : ForestLocal) (given : Bool) → HasParts (case_of setup) run.core.epoch.target run.core.epoch.members owner view.rank last.buffers.spare
        → HasParts (case_of setup) run.core.epoch.target run.core.epoch.members owner view.rank (cond given (forest.parcel last).0 last).buffers.spare
    by_parcel last true parts = parts
    by_parcel last false parts = parts

-- the owners at the end of an epoch are among its members
pub owned_last : (setup : Setup) (epoch : Epoch) (owner home : BlockId → ℕ) (locals : List ForestLocal) → Runs (case_of setup) epoch
    → AreDealt (case_of setup) epoch (rounds_of forest_plan epoch) owner home locals → AreAmong epoch.members (blocks_at (case_of setup) epoch.target) owner
owned_last setup epoch owner home locals runs dealt =
    subst (λ (p : Point). AreAmong epoch.members (blocks_on (case_of setup) p) owner)
    (point_end (case_of setup) epoch (rounds_of forest_plan epoch) (omega (arith, rounds_are epoch))) dealt.owned
