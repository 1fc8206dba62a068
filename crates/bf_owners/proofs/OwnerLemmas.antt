-- What all ranks own, and what those own that live.
use Rattle.std.proofs.Common.{◌≡◌, ℕ, zero, ◌+◌, ◌<◌, ◌≤◌, Bool, true, false, cond, ◌||◌, ◌&&◌, not, IsTrue, List, [], ◌∷◌, ◌++◌, filter, arith, refl, sym, subst, ◌∙◌, ap, inl, inr}
use Rattle.std.specs.Prelude.{◌==◌, Option, Some, None, is_some, if◌then◌else◌, sum_by}
use Rattle.std.specs.List.{flat_map, range_with_len}
use Rattle.std.specs.Option.{option_map}
use Rattle.std.proofs.lemmas.Bool.{eqb-true, and_right}
use Rattle.std.proofs.lemmas.List.Elements.{filter-append}
use Rattle.std.proofs.lemmas.List.Sums.{sum_by-append, sum_by-cons}
use Rattle.bf_buddy.specs.Members.{is_member}
use Rattle.bf_buddy.proofs.MemberLemmas.{member_filter}
use Rattle.bf_program.specs.declared.epoch.Epoch.{Epoch}
use Rattle.bf_program.specs.Meanings.{Meanings, Regions}
use Rattle.bf_program.specs.Laws.{Laws, times}
use Rattle.bf_program.specs.Lockstep.{local_of, lockstep}
use Rattle.bf_program.proofs.LockstepLemmas.{stays_good}
use Rattle.bf_core.specs.declared.event.How.TheVariants.{Done, Broken, Memory}
use Rattle.bf_core.specs.declared.outcome.Outcome.{Outcome}
use Rattle.bf_core.specs.declared.outcome.Outcome.TheVariants as outcomes
use Rattle.bf_core.specs.declared.place.Place.{Place}
use Rattle.bf_core.specs.declared.place.Place.TheVariants.{Rounds, Past}
use Rattle.bf_core.specs.declared.standing.Stage.{Stage}
use Rattle.bf_core.specs.declared.standing.Stage.TheVariants.{Running, Arrived, Leaving, Ended, Dead, Gone}
use Rattle.bf_core.specs.Stages.{is_gone, is_dead, is_short, has_finished_rounds, lives}
use Rattle.bf_core.specs.States.{stage, has_dead_member, is_short_of_memory}
use Rattle.bf_core.proofs.ArrivalLemmas.{has_ended}
use Rattle.bf_core.proofs.SoundLemmas.{is_open}
use Rattle.bf_core.proofs.StageLemmas.{nobody_any}
use Rattle.bf_world.specs.Course.{local_at, local_in_round, local_at_place, first_place}
use Rattle.bf_world.specs.Messages.{sent_to, received_from}
use Rattle.bf_world.specs.Queues.{messages, no_messages}
use Rattle.bf_world.specs.Runs.{Run, place, parcel_with, last_local, run_after}
use Rattle.bf_world.specs.Worlds.{View, IsView}
use Rattle.bf_world.proofs.EndLemmas.{nothing_waits_at_end}
use Rattle.bf_world.proofs.LawfulLemmas.{IsLawful, after_lawful}
use Rattle.bf_world.proofs.MemberLemmas.{Apart}
use Rattle.bf_world.proofs.MessageLemmas.{sent_at_first, received_at_first}
use Rattle.bf_world.proofs.QueueLemmas.{messages_of_none}
use Rattle.bf_world.proofs.ResultLemmas.{gives, IsGiven, IsResult, after_result}
use Rattle.bf_owners.specs.Owners.{local_here, local_by, boxes_of, held, awaited, given, owned, times_owned, all_ranks, live_ranks, IsUnhurt}
use Rattle.bf_owners.proofs.KeptLemmas.{HasRegister, IsKept, after_kept, register}
use Rattle.bf_owners.proofs.LedgerLemmas.{weight_with, place_weighs}
use Rattle.bf_owners.proofs.SumLemmas.{sum_alike, sum_none, sum_both, sum_joined, sum_range, sum_at_most}
use Rattle.bf_owners.proofs.TotalLemmas.{no_seat, good_weighs, total_weighs}

module _ {S L M T R B U : Type 0} (m : Meanings S L M T R) (regions : Regions S L M T R B U) (unit : U) where
  abbrev pub local_times : L → ℕ
  local_times local = times regions (regions.of_local local) unit

  abbrev pub message_times : M → ℕ
  message_times msg = times regions (regions.of_message msg) unit

  abbrev pub part_times : L → ℕ
  part_times local = times regions (regions.of_part (m.parcel local).1) unit

  times_joined : (xs ys : List B) → times regions (xs ++ ys) unit ≡ times regions xs unit + times regions ys unit
  times_joined xs ys = sum_by-append (λ (box : B). cond (regions.holds box unit) 1 0) xs ys

  times_flat : {X : Type 0} (boxes : X → List B) (xs : List X) → times regions (flat_map boxes xs) unit ≡ sum_by (λ x. times regions (boxes x) unit) xs
  times_flat boxes xs = sum_joined (λ (box : B). cond (regions.holds box unit) 1 0) boxes xs

  -- of the parcels that some ranks give, those of one rank
  gifts_weigh : (setup : S) (epoch : Epoch) (start : List L) (arrivals : List ℕ) (rank : ℕ) → Apart arrivals
      → sum_by (λ (parcel : ℕ × T). times regions (regions.of_part parcel.1) unit) (filter (λ parcel. parcel.0 == rank) (flat_map (gives m setup epoch start) arrivals))
      ≡ cond (is_member arrivals rank) (weight_with part_times (local_at m setup epoch start rank (m.rounds setup epoch))) 0
  gifts_weigh setup epoch start [] rank apart = refl
  gifts_weigh setup epoch start (x ∷ xs) rank apart =
      ap weigh (filter-append (λ parcel. parcel.0 == rank) (gives m setup epoch start x) (flat_map (gives m setup epoch start) xs))
      ∙ sum_by-append (λ (parcel : ℕ × T). times regions (regions.of_part parcel.1) unit)
      (filter (λ parcel. parcel.0 == rank) (gives m setup epoch start x)) (filter (λ parcel. parcel.0 == rank) (flat_map (gives m setup epoch start) xs))
      ∙ at_first (x == rank) refl (its (local_at m setup epoch start x (m.rounds setup epoch)))
      (gifts_weigh setup epoch start xs rank apart.1)
    where
      weigh : List (ℕ × T) → ℕ
      weigh parcels = sum_by (λ (parcel : ℕ × T). times regions (regions.of_part parcel.1) unit) parcels

      its : (o : Option L) → sum_by (λ (parcel : ℕ × T). times regions (regions.of_part parcel.1) unit) (filter (λ parcel. parcel.0 == rank) (parcel_with m setup x o))
          ≡ cond (x == rank) (weight_with part_times o) 0
      its (Some local) = by_test (x == rank)
        where
          by_test : (b : Bool) → sum_by (λ (parcel : ℕ × T). times regions (regions.of_part parcel.1) unit) (cond b ((x, (m.parcel local).1) ∷ []) [])
              ≡ cond b (part_times local) 0
          by_test true = omega (arith, sum_by-cons (λ (parcel : ℕ × T). times regions (regions.of_part parcel.1) unit) (x, (m.parcel local).1) [])
          by_test false = refl
      its None = by_test (x == rank)
        where
          by_test : (b : Bool) → zero ≡ cond b zero zero
          by_test true = refl
          by_test false = refl

      at_first : (b : Bool) → (x == rank) ≡ b
          → sum_by (λ (parcel : ℕ × T). times regions (regions.of_part parcel.1) unit) (filter (λ parcel. parcel.0 == rank) (gives m setup epoch start x))
          ≡ cond b (weight_with part_times (local_at m setup epoch start x (m.rounds setup epoch))) 0
          → sum_by (λ (parcel : ℕ × T). times regions (regions.of_part parcel.1) unit) (filter (λ parcel. parcel.0 == rank) (flat_map (gives m setup epoch start) xs))
          ≡ cond (is_member xs rank) (weight_with part_times (local_at m setup epoch start rank (m.rounds setup epoch))) 0
          → sum_by (λ (parcel : ℕ × T). times regions (regions.of_part parcel.1) unit) (filter (λ parcel. parcel.0 == rank) (gives m setup epoch start x))
          + sum_by (λ (parcel : ℕ × T). times regions (regions.of_part parcel.1) unit) (filter (λ parcel. parcel.0 == rank) (flat_map (gives m setup epoch start) xs))
          ≡ cond (b || is_member xs rank) (weight_with part_times (local_at m setup epoch start rank (m.rounds setup epoch))) 0
      at_first true same here rest =
          let is : x ≡ rank = eqb-true x rank same in
          let out : is_member xs rank ≡ false = ap (is_member xs) (sym is) ∙ apart.0 in
          omega (
            arith,
            here,
            rest ∙ ap (λ b. cond b (weight_with part_times (local_at m setup epoch start rank (m.rounds setup epoch))) 0) out,
            ap (λ r. weight_with part_times (local_at m setup epoch start r (m.rounds setup epoch))) is,
          )
      at_first false other here rest = omega (arith, here, rest)

  pub boxes_weigh : (o : Option L) → times regions (boxes_of regions o) unit ≡ weight_with local_times o
  boxes_weigh (Some local) = refl
  boxes_weigh None = refl

  module _ (view : View S M T) where
    pub held_weighs : (rank : ℕ) → times regions (held m regions view rank) unit
        ≡ weight_with local_times (local_by m view.setup (run_after m view.setup view.journal) rank (stage (run_after m view.setup view.journal).core rank))
    unfolding held
    held_weighs rank = boxes_weigh (local_by m view.setup (run_after m view.setup view.journal) rank (stage (run_after m view.setup view.journal).core rank))

    -- what waits for a rank
    abbrev pub waiting_weight : (rank : ℕ) → ℕ
    waiting_weight rank = sum_by (λ from. sum_by message_times (messages view.waiting from rank)) (range_with_len 0 (m.ranks view.setup))

    awaited_weighs : (rank : ℕ) → times regions (awaited m regions view rank) unit ≡ waiting_weight rank
    unfolding awaited
    awaited_weighs rank =
        times_flat (λ from. flat_map regions.of_message (messages view.waiting from rank)) (range_with_len 0 (m.ranks view.setup))
        ∙ sum_alike _ (λ from. sum_by message_times (messages view.waiting from rank)) (range_with_len 0 (m.ranks view.setup))
        (λ from. times_flat regions.of_message (messages view.waiting from rank))

    -- the parcel that a rank has given, by who has given one
    given_weighs : (epoch : Epoch) (start : List L) (arrivals : List ℕ) (rank : ℕ) → Apart arrivals → view.parcels ≡ flat_map (gives m view.setup epoch start) arrivals
        → times regions (given m regions view rank) unit
        ≡ cond (is_member arrivals rank) (weight_with part_times (local_at m view.setup epoch start rank (m.rounds view.setup epoch))) 0
    unfolding given
    given_weighs epoch start arrivals rank apart are =
        times_flat (λ (parcel : ℕ × T). regions.of_part parcel.1) (filter (λ parcel. parcel.0 == rank) view.parcels)
        ∙ ap (λ (parcels : List (ℕ × T)). sum_by (λ (parcel : ℕ × T). times regions (regions.of_part parcel.1) unit) (filter (λ parcel. parcel.0 == rank) parcels)) are
        ∙ gifts_weigh view.setup epoch start arrivals rank apart

    owned_weighs : (rank : ℕ) → times regions (owned m regions view rank) unit
        ≡ times regions (held m regions view rank) unit + (times regions (awaited m regions view rank) unit + times regions (given m regions view rank) unit)
    owned_weighs rank =
        times_joined (held m regions view rank) (awaited m regions view rank ++ given m regions view rank)
        ∙ ap (λ n. times regions (held m regions view rank) unit + n) (times_joined (awaited m regions view rank) (given m regions view rank))

module _ {S L M T R B U : Type 0} (m : Meanings S L M T R) (regions : Regions S L M T R B U) (good : S → Epoch → ℕ → List L → Type 0) (setup : S)
    (laws : Laws m regions good setup) (unit : U) (run : Run L T) (lawful : IsLawful m good setup laws.goods laws.stores run) where
  -- the locals once all rounds are done are good
  good_last : good setup run.core.epoch (m.rounds setup run.core.epoch) (lockstep m setup run.core.epoch run.start (m.rounds setup run.core.epoch))
  good_last = stays_good m good setup laws.goods run.core.epoch run.start (m.rounds setup run.core.epoch) lawful.steady.good_start (omega arith)

  -- what a rank's last local holds is in its parcel, and nothing is left of it
  part_weighs : (rank : ℕ) → weight_with (part_times m regions unit) (last_local m setup run rank) ≡ weight_with (local_times m regions unit) (last_local m setup run rank)
  part_weighs rank = by_local (last_local m setup run rank) refl
    where
      by_local : (o : Option L) → last_local m setup run rank ≡ o → weight_with (part_times m regions unit) o ≡ weight_with (local_times m regions unit) o
      by_local (Some local) its = (laws.pieces.parcel run.core.epoch _ rank local unit good_last its).0
      by_local None none = refl

  pub left_weighs : (rank : ℕ) → weight_with (local_times m regions unit) (option_map (λ local. (m.parcel local).0) (last_local m setup run rank)) ≡ 0
  left_weighs rank = by_local (last_local m setup run rank) refl
    where
      by_local : (o : Option L) → last_local m setup run rank ≡ o → weight_with (local_times m regions unit) (option_map (λ local. (m.parcel local).0) o) ≡ 0
      by_local (Some local) its = (laws.pieces.parcel run.core.epoch _ rank local unit good_last its).1
      by_local None none = refl

  -- a rank where the epoch begins began with what its local at its place holds
  pub begins_with : ((y : ℕ) → is_member run.core.epoch.members y ≡ true → y < m.ranks setup)
      → (rank : ℕ) → place run rank ≡ first_place m setup run.core.epoch run.start rank
      → weight_with (local_times m regions unit) (local_of run.core.epoch.members run.start rank) ≡ weight_with (local_times m regions unit) (local_here m setup run rank)
  begins_with below rank at =
      let every : List ℕ = range_with_len 0 (m.ranks setup) in
      let sent : sum_by (λ to. sum_by (message_times m regions unit) (sent_to m setup run.core.epoch run.start rank to (place run rank))) every ≡ 0 =
      sum_alike _ (λ to. zero) every
      (λ to. ap (λ (p : Place). sum_by (message_times m regions unit) (sent_to m setup run.core.epoch run.start rank to p)) at
      ∙ ap (sum_by (message_times m regions unit)) (sent_at_first m setup run.core.epoch run.start rank to)) ∙ sum_none every in
      let received : sum_by (λ from. sum_by (message_times m regions unit) (received_from m setup run.core.epoch run.start rank from (place run rank))) every ≡ 0 =
      sum_alike _ (λ from. zero) every
      (λ from. ap (λ (p : Place). sum_by (message_times m regions unit) (received_from m setup run.core.epoch run.start rank from p)) at
      ∙ ap (sum_by (message_times m regions unit)) (received_at_first m setup run.core.epoch run.start rank from)) ∙ sum_none every in
      omega (
        arith,
        place_weighs m regions good setup laws.goods laws.peers laws.pieces run.core.epoch run.start lawful.steady.good_start unit (m.ranks setup) below rank
            (place run rank) (lawful.steady.placed rank),
        sent,
        received,
      )

  module _ (none : run.core.outcome ≡ None) (kept : IsKept m setup run) (below : (y : ℕ) → is_member run.core.epoch.members y ≡ true → y < m.ranks setup)
      (its : IsGiven m setup run) where
    -- what a rank has given while the run goes on
    abbrev pub gift : ℕ → ℕ
    gift rank = cond (is_member its.arrivals rank) (weight_with (part_times m regions unit) (last_local m setup run rank)) 0

    no_gift : (rank : ℕ) → (has_finished_rounds (stage run.core rank) && (run.core.epoch.target == run.core.steps)) ≡ false → gift rank ≡ 0
    no_gift rank fails = ap (λ b. cond b (weight_with (part_times m regions unit) (last_local m setup run rank)) 0) (its.who rank ∙ fails)

    -- who died before the epoch has no local
    gone_away : (rank : ℕ) → stage run.core rank ≡ Gone → local_here m setup run rank ≡ None
    unfolding local_at_place
    gone_away rank gone = by_place (place run rank)
      where
        out : is_member run.core.epoch.members rank ≡ false
        out = ap (λ members. is_member members rank) (lawful.sound.members none)
            ∙ member_filter (λ r. not (is_gone (stage run.core r))) (range_with_len 0 run.core.ranks) rank
            ∙ and_right _ _ (ap (λ s. not (is_gone s)) gone)

        by_place : (p : Place) → local_at_place m setup run.core.epoch run.start rank p ≡ None
        by_place (Rounds round sent received peers) =
            ap (option_map (local_in_round m setup run.core.epoch run.start rank round sent received peers))
            (no_seat run.core.epoch.members (lockstep m setup run.core.epoch run.start round) rank out)
        by_place Past = no_seat run.core.epoch.members (lockstep m setup run.core.epoch run.start (m.rounds setup run.core.epoch)) rank out

    -- what a rank has and has given is at most what the lockstep has where it stands, and all of that if it lives and didn't want memory
    pub record IsShare (rank : ℕ) (s : Stage) : Type 0 where
      pub most : weight_with (local_times m regions unit) (local_by m setup run rank s) + gift rank ≤ weight_with (local_times m regions unit) (local_here m setup run rank)
      pub whole : is_dead s ≡ false → is_short s ≡ false
          → weight_with (local_times m regions unit) (local_by m setup run rank s) + gift rank ≡ weight_with (local_times m regions unit) (local_here m setup run rank)

    full_share : (rank : ℕ) (s : Stage)
        → weight_with (local_times m regions unit) (local_by m setup run rank s) + gift rank ≡ weight_with (local_times m regions unit) (local_here m setup run rank)
        → IsShare rank s
    full_share rank s same = record { most = omega (arith, same); whole = λ _ _. same }

    done_share : (rank : ℕ) (filled : Bool) → stage run.core rank ≡ Arrived Done filled → IsShare rank (Arrived Done filled)
    unfolding local_at_place
    done_share rank filled at = by_end (run.core.epoch.target == run.core.steps) refl
      where
        past : weight_with (local_times m regions unit) (local_here m setup run rank) ≡ weight_with (local_times m regions unit) (last_local m setup run rank)
        past = ap (λ (p : Place). weight_with (local_times m regions unit) (local_at_place m setup run.core.epoch run.start rank p)) (lawful.steady.done rank filled at).0

        by_end : (b : Bool) → (run.core.epoch.target == run.core.steps) ≡ b → IsShare rank (Arrived Done filled)
        by_end true ends = full_share rank (Arrived Done filled)
            (let left : weight_with (local_times m regions unit) (local_by m setup run rank (Arrived Done filled)) ≡ 0 =
            ap (λ b. weight_with (local_times m regions unit) (option_map (λ last. if b then (m.parcel last).0 else last) (last_local m setup run rank))) ends ∙ left_weighs rank in
            let gives_all : gift rank ≡ weight_with (part_times m regions unit) (last_local m setup run rank) =
            ap (λ b. cond b (weight_with (part_times m regions unit) (last_local m setup run rank)) 0)
            (its.who rank ∙ ap (λ s. has_finished_rounds s && (run.core.epoch.target == run.core.steps)) at ∙ ends) in
            omega (arith, left, gives_all, part_weighs rank, past))
        by_end false unended = full_share rank (Arrived Done filled)
            (let left : weight_with (local_times m regions unit) (local_by m setup run rank (Arrived Done filled)) ≡ weight_with (local_times m regions unit) (last_local m setup run rank) =
            ap (λ b. weight_with (local_times m regions unit) (option_map (λ last. if b then (m.parcel last).0 else last) (last_local m setup run rank))) unended
            ∙ ap (weight_with (local_times m regions unit)) (mapped_same (last_local m setup run rank)) in
            omega (arith, left, no_gift rank (and_right _ _ unended), past))
          where
            mapped_same : (o : Option L) → option_map (λ last. last) o ≡ o
            mapped_same (Some local) = refl
            mapped_same None = refl

    pub share : (rank : ℕ) → IsShare rank (stage run.core rank)
    share rank = by_stage (stage run.core rank) refl
      where
        unfinished : (s : Stage) → stage run.core rank ≡ s → has_finished_rounds s ≡ false → gift rank ≡ 0
        unfinished s at undone = no_gift rank (ap (λ t. has_finished_rounds t && (run.core.epoch.target == run.core.steps)) at
            ∙ ap (λ b. b && (run.core.epoch.target == run.core.steps)) undone)

        by_stage : (s : Stage) → stage run.core rank ≡ s → IsShare rank s
        by_stage Running at = full_share rank Running (omega (arith, unfinished Running at refl))
        by_stage (Arrived Done filled) at = done_share rank filled at
        by_stage (Arrived Broken filled) at = full_share rank (Arrived Broken filled) (omega (arith, unfinished (Arrived Broken filled) at refl))
        by_stage (Arrived Memory filled) at = record {
          most = omega (arith, unfinished (Arrived Memory filled) at refl);
          whole = λ _ wants. absurd (cc);
        }
        by_stage Leaving at = full_share rank Leaving
            (omega (
              arith,
              unfinished Leaving at refl,
              ap (λ (o : Option Outcome). weight_with (local_times m regions unit) (if is_some o then None else local_of run.core.epoch.members run.start rank)) none,
              begins_with below rank (kept.begins none rank at),
            ))
        by_stage Ended at = absurd (let both : true ≡ false = sym (ap has_ended at) ∙ lawful.fair.unended none rank in cc)
        by_stage Dead at = record {
          most = omega (arith, unfinished Dead at refl);
          whole = λ dead _. absurd (cc);
        }
        by_stage Gone at = full_share rank Gone
            (omega (arith, unfinished Gone at refl, ap (weight_with (local_times m regions unit)) (gone_away rank at)))

module _ {S L M T R B U : Type 0} (m : Meanings S L M T R) (regions : Regions S L M T R B U) (good : S → Epoch → ℕ → List L → Type 0) (view : View S M T)
    (laws : Laws m regions good view.setup) (seen : IsView m view) (unit : U) (inside : IsTrue (regions.is_in_domain view.setup unit)) where
  -- the run that the journal tells
  abbrev told : Run L T
  told = run_after m view.setup view.journal

  lawful : IsLawful m good view.setup laws.goods laws.stores told
  lawful = after_lawful m good view.setup laws.goods laws.stores laws.limits view.journal seen.legal

  result : IsResult m good view.setup laws.goods laws.stores told
  result = after_result m good view.setup laws.goods laws.stores laws.limits view.journal seen.legal

  kept : IsKept m view.setup told
  kept = after_kept m good view.setup laws.goods laws.stores laws.limits view.journal seen.legal

  listed : HasRegister m view.setup told
  listed = register m good view.setup laws.goods laws.stores told lawful result kept

  abbrev every : List ℕ
  every = range_with_len 0 (m.ranks view.setup)

  abbrev owns : ℕ → ℕ
  owns rank = times regions (owned m regions view rank) unit

  -- while the run goes on: what a rank's local holds where it stands, and what waits for it
  abbrev share_of : ℕ → ℕ
  share_of rank = weight_with (local_times m regions unit) (local_here m view.setup told rank) + waiting_weight m regions unit view rank

  module _ (none : told.core.outcome ≡ None) where
    shared : (rank : ℕ) → IsShare m regions good view.setup laws unit told lawful none kept listed.below (result.going none)
        rank (stage told.core rank)
    shared rank = share m regions good view.setup laws unit told lawful none kept listed.below (result.going none) rank

    owns_parts : (rank : ℕ) → owns rank
        ≡ weight_with (local_times m regions unit) (local_by m view.setup told rank (stage told.core rank))
        + (waiting_weight m regions unit view rank
        + gift m regions good view.setup laws unit told lawful none kept listed.below (result.going none) rank)
    owns_parts rank =
        omega (
          arith,
          owned_weighs m regions unit view rank,
          held_weighs m regions unit view rank,
          awaited_weighs m regions unit view rank,
          given_weighs m regions unit view told.core.epoch told.start (result.going none).arrivals rank
              (result.going none).apart (seen.parcels ∙ (result.going none).parcels_are),
        )

    shares_weigh : sum_by share_of every ≡ 1
    shares_weigh =
        let P : ℕ → Type 0 = λ n. sum_by (λ rank. weight_with (local_times m regions unit) (local_here m view.setup told rank)) (range_with_len 0 n)
        + sum_by (λ rank. sum_by (λ from. sum_by (message_times m regions unit) (messages view.waiting from rank)) (range_with_len 0 n)) (range_with_len 0 n) ≡ 1 in
        sum_both (λ rank. weight_with (local_times m regions unit) (local_here m view.setup told rank)) (waiting_weight m regions unit view) every
        ∙ subst P seen.queues.ranks
        (total_weighs m regions good view.setup laws.goods laws.peers laws.pieces unit told view.waiting lawful.steady.good_start listed.members
        (λ y member. omega (arith, listed.below y member, seen.queues.ranks)) lawful.steady.placed (seen.queues.holds none) inside)

    going_once : has_dead_member told.core ≡ false → is_short_of_memory told.core ≡ false → sum_by owns every ≡ 1
    going_once alive content =
        sum_alike owns share_of every
        (λ rank. omega (
          arith,
          owns_parts rank,
          (shared rank).whole (nobody_any is_dead told.core refl alive rank) (nobody_any is_short told.core refl content rank),
        ))
        ∙ shares_weigh

    going_most : sum_by owns (live_ranks m view) ≤ 1
    going_most =
        let most : sum_by owns (live_ranks m view) ≤ sum_by share_of every =
        sum_at_most owns share_of (λ rank. lives (stage told.core rank)) 0 (m.ranks view.setup)
        (λ rank _ _ _. omega (arith, owns_parts rank, (shared rank).most)) in
        omega (arith, most, shares_weigh)

  module _ (outcome : Outcome) (ends : told.core.outcome ≡ Some outcome) where
    -- what each rank's last local holds
    abbrev last_weight : ℕ → ℕ
    last_weight rank = weight_with (local_times m regions unit) (last_local m view.setup told rank)

    nothing_held : (rank : ℕ) → times regions (held m regions view rank) unit ≡ 0
    nothing_held rank = held_weighs m regions unit view rank ∙ by_stage (stage told.core rank) (lawful.sound.over outcome ends rank)
      where
        by_stage : (s : Stage) → is_open s ≡ false
            → weight_with (local_times m regions unit) (local_by m view.setup told rank s) ≡ 0
        by_stage Running opened = absurd (cc)
        by_stage (Arrived how filled) opened = absurd (cc)
        by_stage Leaving _ =
            ap (λ (o : Option Outcome). weight_with (local_times m regions unit)
            (if is_some o then None else local_of told.core.epoch.members told.start rank)) ends
        by_stage Ended _ = refl
        by_stage Dead _ = refl
        by_stage Gone _ = refl

    nothing_awaited : (rank : ℕ) → rank < m.ranks view.setup → times regions (awaited m regions view rank) unit ≡ 0
    nothing_awaited rank within =
        let none : view.waiting ≡ no_messages (m.ranks view.setup) =
        nothing_waits_at_end m good view.setup laws.goods laws.stores laws.limits view.journal view.waiting outcome seen.legal seen.queues ends in
        awaited_weighs m regions unit view rank
        ∙ sum_range (λ from. sum_by (message_times m regions unit) (messages view.waiting from rank)) (λ from. zero) 0 (m.ranks view.setup)
        (λ from _ below. ap (λ w. sum_by (message_times m regions unit) (messages w from rank)) none
        ∙ ap (sum_by (message_times m regions unit)) (messages_of_none M (m.ranks view.setup) from rank (omega (arith, below)) within))
        ∙ sum_none every

    owns_gift : (rank : ℕ) → rank < m.ranks view.setup → owns rank ≡ cond (is_member listed.arrivals rank) (last_weight rank) 0
    owns_gift rank within =
        omega (
          arith,
          owned_weighs m regions unit view rank,
          nothing_held rank,
          nothing_awaited rank within,
          given_weighs m regions unit view told.core.epoch told.start listed.arrivals rank
              listed.apart (seen.parcels ∙ listed.parcels_are)
              ∙ ap (λ n. cond (is_member listed.arrivals rank) n 0) (part_weighs m regions good view.setup laws unit told lawful rank),
        )

    last_weighs : sum_by last_weight every ≡ 1
    last_weighs =
        good_weighs m regions good view.setup laws.goods laws.peers laws.pieces unit told.core.epoch
        (m.rounds view.setup told.core.epoch) _ (m.ranks view.setup)
        (good_last m regions good view.setup laws unit told lawful) listed.members listed.below inside

    ended_most : sum_by owns (live_ranks m view) ≤ 1
    ended_most =
        let most : sum_by owns (live_ranks m view) ≤ sum_by last_weight every =
        sum_at_most owns last_weight (λ rank. lives (stage told.core rank)) 0 (m.ranks view.setup)
        (λ rank _ below _. omega (arith, owns_gift rank (omega (arith, below)), at_most (is_member listed.arrivals rank) (last_weight rank))) in
        omega (arith, most, last_weighs)
      where
        at_most : (b : Bool) (n : ℕ) → cond b n 0 ≤ n
        at_most true n = omega arith
        at_most false n = omega arith

    finished_once : outcome ≡ outcomes.Finished → sum_by owns every ≡ 1
    finished_once finishes =
        sum_range owns last_weight 0 (m.ranks view.setup)
        (λ rank _ below. owns_gift rank (omega (arith, below)) ∙ by_given rank (is_member listed.arrivals rank) refl (is_member told.core.epoch.members rank) refl)
        ∙ last_weighs
      where
        by_given : (rank : ℕ) (b : Bool) → is_member listed.arrivals rank ≡ b → (c : Bool) → is_member told.core.epoch.members rank ≡ c
            → cond b (last_weight rank) 0 ≡ last_weight rank
        by_given rank true gave c is = refl
        by_given rank false kept_back true is =
            let both : true ≡ false = sym (listed.full (ends ∙ ap Some finishes) rank is) ∙ kept_back in absurd (cc)
        by_given rank false kept_back false out =
            sym (ap (weight_with (local_times m regions unit)) (no_seat told.core.epoch.members
            (lockstep m view.setup told.core.epoch told.start (m.rounds view.setup told.core.epoch)) rank out))

  -- each unit has one owner
  pub owned_once : IsUnhurt (run_after m view.setup view.journal).core → times_owned m regions view (all_ranks m view) unit ≡ 1
  owned_once unhurt = elim unhurt [
    | inl finished ↦ finished_once outcomes.Finished finished refl
    | inr going ↦ going_once going.0 going.1.0 going.1.1
  ]

  -- and those that live own it at most once
  pub owned_at_most_once : times_owned m regions view (live_ranks m view) unit ≤ 1
  owned_at_most_once = by_outcome told.core.outcome refl
    where
      by_outcome : (o : Option Outcome) → told.core.outcome ≡ o → sum_by owns (live_ranks m view) ≤ 1
      by_outcome None none = going_most none
      by_outcome (Some outcome) ends = ended_most outcome ends
