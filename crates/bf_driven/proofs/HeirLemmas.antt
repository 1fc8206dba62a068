-- A restore gives each leaf of the agreed map to its heir.
use Rattle.std.proofs.Common.{◌≡◌, ℕ, ◌+◌, arith, Bool, true, false, cond, not, ◌||◌, List, [], ◌∷◌, ◌++◌, map, filter, flat_map, Some, None, Contains, All, refl, sym, ap, subst, ◌∙◌}
use Rattle.std.specs.Prelude.{◌==◌}
use Rattle.std.proofs.lemmas.Bool.{eqb-true, eq-eqb, or_left, or_right}
use Rattle.std.proofs.lemmas.List.{map-id}
use Rattle.std.proofs.lemmas.List.Elements.{All-contains, All-map}
use Rattle.bf_lemmas.proofs.Lists.{map_twice}
use Rattle.bf_buddy.specs.Members.{is_member}
use Rattle.bf_buddy.specs.Buddy.{buddy_of}
use Rattle.bf_buddy.specs.Losses.{first_lost_of}
use Rattle.bf_buddy.proofs.LossLemmas.{none_lost}
use Rattle.bf_buddy.proofs.MemberLemmas.{all_members, member_filter_from}
use Rattle.bf_id.specs.Id.{BlockId}
use Rattle.bf_case.specs.declared.case.Case.{Case}
use Rattle.bf_case.specs.Map.{ids_of}
use Rattle.bf_case.specs.Model.{model}
use Rattle.bf_case.proofs.ListLemmas.{Contains-map_cases}
use Rattle.bf_case.proofs.TestLemmas.{Contains-filter, Contains-filter_cases}
use Rattle.bf_program.specs.declared.epoch.Epoch.{Epoch}
use Rattle.bf_program.specs.Epochs.{epoch_after_restore}
use Rattle.bf_program.specs.Lockstep.{local_of}
use Rattle.bf_program.specs.Restores.{heir_of, restored_epoch, restored_locals, IsGivenOnce}
use Rattle.bf_core.specs.declared.event.Event.{Event}
use Rattle.bf_world.specs.Losses.{has_died, survivors}
use Rattle.bf_world.specs.Runs.{run_after}
use Rattle.bf_world.specs.Snapshots.{RestoresAll}
use Rattle.bf_world.specs.Worlds.{core_after}
use Rattle.bf_parts.specs.Leaves.{AreAmong, part_of}
use Rattle.bf_rounds.proofs.VectorLemmas.{told_local}
use Rattle.bf_stages.specs.Plans.{span, stage_of}
use Rattle.bf_block.specs.declared.point.Point.{Point}
use Rattle.bf_block.specs.Block.{before_regrid}
use Rattle.bf_forest.specs.declared.local.ForestLocal.{ForestLocal}
use Rattle.bf_forest.specs.declared.setup.Setup.{Setup}
use Rattle.bf_forest.specs.Goods.{local_at, AreDealt, HasAgreed, HasLeaf, IsPart}
use Rattle.bf_forest.specs.Leaves.{AreLeaves, bare_blocks}
use Rattle.bf_forest.specs.Meanings.{forest}
use Rattle.bf_forest.specs.ModelBlocks.{blocks_at, blocks_on}
use Rattle.bf_forest.specs.Setup.{case_of, every_setup_is_valid}
use Rattle.bf_forest.specs.StageLaws.{point_first}
use Rattle.bf_forest.specs.Staging.{point_at}
use Rattle.bf_forest.specs.StripLaws.{member_contains}
use Rattle.bf_forest.specs.VectorLaws.{parts_at}
use Rattle.bf_driven.specs.Heirs.{AreAtOwners, GivesToHeirs, HasBlock, leaf_heir}

-- locals that are dealt are those of the members
dealt_seats : (c : Case) (epoch : Epoch) (round : ℕ) (owner home : BlockId → ℕ) (locals : List ForestLocal) → AreDealt c epoch round owner home locals
    → map (λ (local : ForestLocal). local.rank) locals ≡ epoch.members
dealt_seats c epoch round owner home locals dealt =
    ap (map (λ (local : ForestLocal). local.rank)) dealt.are
    ∙ map_twice (λ (local : ForestLocal). local.rank) (local_at c epoch round owner home) (λ rank. rank) (λ rank. refl) epoch.members
    ∙ map-id epoch.members

-- as an epoch begins, its number and what began it make no difference
dealt_alike : (c : Case) (epoch other : Epoch) (owner home : BlockId → ℕ) (locals : List ForestLocal) → epoch.time ≡ other.time → epoch.target ≡ other.target
    → epoch.members ≡ other.members → epoch.homes ≡ other.homes → AreDealt c epoch 0 owner home locals → AreDealt c other 0 owner home locals
unfolding span stage_of point_at
dealt_alike c epoch other owner home locals time target members homes dealt =
    let renamed : Epoch = record epoch { number = other.number; restored = other.restored } in
    let same : renamed ≡ other =
    λ i. record { number = other.number; time = time i; target = target i; members = members i; homes = homes i; restored = other.restored } in
    let first : AreDealt c renamed 0 owner home locals =
    record { rising = dealt.rising; owned = dealt.owned; housed = dealt.housed; held = dealt.held; are = dealt.are } in
    subst (λ (e : Epoch). AreDealt c e 0 owner home locals) same first

-- who is the home of a leaf is one of the homes among which all leaves have theirs
pub leaf_housed : (c : Case) (time : ℕ) (homes : List ℕ) (home : BlockId → ℕ) (rank : ℕ) → AreAmong homes (blocks_at c time) home → HasLeaf c time home rank
    → (is_member homes rank ≡ true) × HasLeaf c time home rank
unfolding blocks_on
leaf_housed c time homes home rank housed has =
    (subst (λ r. is_member homes r ≡ true) has.1.1 (All-contains (λ i. is_member homes (home i) ≡ true) (ids_of (model c time)) has.0 housed has.1.0), has)

-- as an epoch begins, the leaves are at their owners
module _ (setup : Setup) (epoch : Epoch) (owner home : BlockId → ℕ) (locals : List ForestLocal) (dealt : AreDealt (case_of setup) epoch 0 owner home locals)
    (first : point_at (case_of setup) epoch 0 ≡ before_regrid epoch.time) where
  abbrev ids : List BlockId
  ids = ids_of (model (case_of setup) epoch.time)

  abbrev HasPart : ForestLocal → Type 0
  HasPart local = IsPart (case_of setup) epoch.time owner local.rank local.blocks

  owned_first : AreAmong epoch.members (blocks_at (case_of setup) epoch.time) owner
  owned_first = subst (λ (p : Point). AreAmong epoch.members (blocks_on (case_of setup) p) owner) first dealt.owned

  parts_first : All HasPart locals
  parts_first =
      subst (All HasPart) (sym dealt.are)
      (All-map HasPart (local_at (case_of setup) epoch 0 owner home) epoch.members
      (all_members (λ rank. HasPart (local_at (case_of setup) epoch 0 owner home rank)) epoch.members (λ rank member.
      subst (λ (p : Point). IsPart (case_of setup) epoch.time owner rank (part_of (blocks_on (case_of setup) p) owner rank)) (sym first)
      (parts_at (case_of setup) epoch.time epoch.members owner rank (every_setup_is_valid setup) dealt.held.members_rise member).own)))

  -- who has a leaf's block is its owner
  is_owner : (leaf : BlockId) (rank : ℕ) → HasBlock locals rank leaf → rank ≡ owner leaf
  is_owner leaf rank has =
      let part = All-contains HasPart locals has.local parts_first has.among in
      let its = Contains-filter_cases (λ i. owner i == has.local.rank) ids leaf (subst (λ (found : List BlockId). Contains found leaf) part.ids has.has) in
      sym has.its ∙ sym (eqb-true (owner leaf) has.local.rank its.1)

  -- and a leaf's owner has it
  owner_has : (leaf : BlockId) → Contains ids leaf → (rank : ℕ) → rank ≡ owner leaf → HasBlock locals rank leaf
  unfolding blocks_on
  owner_has leaf there rank is =
      let member : is_member epoch.members (owner leaf) ≡ true = All-contains (λ i. is_member epoch.members (owner i) ≡ true) ids leaf owned_first there in
      let seat = Contains-map_cases (λ (local : ForestLocal). local.rank) locals (owner leaf)
      (subst (λ (ranks : List ℕ). Contains ranks (owner leaf)) (sym (dealt_seats (case_of setup) epoch 0 owner home locals dealt)) (member_contains epoch.members (owner leaf) member)) in
      let part = All-contains HasPart locals seat.0 parts_first seat.1 in
      record {
        local = seat.0;
        among = seat.1;
        its = sym seat.2 ∙ sym is;
        has = subst (λ (found : List BlockId). Contains found leaf) (sym part.ids)
            (Contains-filter (λ i. owner i == seat.0.rank) ids leaf there (eq-eqb (owner leaf) seat.0.rank seat.2));
      }

  at_owners : AreLeaves (model (case_of setup) epoch.time) (flat_map (λ (local : ForestLocal). bare_blocks local.blocks) locals)
      → AreAtOwners (case_of setup) epoch.time epoch.members owner locals
  at_owners leaves = record {
    owned = owned_first;
    seats = dealt_seats (case_of setup) epoch 0 owner home locals dealt;
    parts = parts_first;
    alone = λ leaf there rank. (λ has. is_owner leaf rank has, λ is. owner_has leaf there rank is);
    once = leaves;
  }

-- a repair makes no step
repairs_nowhere : (ranks : List ℕ) (epoch : Epoch) → (epoch_after_restore ranks epoch).time + span (epoch_after_restore ranks epoch) ≡ (epoch_after_restore ranks epoch).target
unfolding span
repairs_nowhere ranks epoch = omega arith

-- at an event that brings a restore
module _ (setup : Setup) (journal : List Event) (event : Event) (owner home : BlockId → ℕ)
    (all : RestoresAll forest setup (run_after forest setup journal) (run_after forest setup (journal ++ event ∷ [])) (journal ++ event ∷ []))
    (dealt : AreDealt (case_of setup) (core_after forest setup journal).epoch 0 owner home (run_after forest setup journal).start) where
  abbrev epoch : Epoch
  epoch = (core_after forest setup journal).epoch

  abbrev lives : ℕ → Bool
  lives rank = not (has_died (journal ++ event ∷ []) rank)

  abbrev live : List ℕ
  live = filter lives epoch.members

  abbrev left : List ℕ
  left = survivors (case_of setup).ranks (journal ++ event ∷ [])

  abbrev before : List ForestLocal
  before = (run_after forest setup journal).start

  abbrev after : List ForestLocal
  after = (run_after forest setup (journal ++ event ∷ [])).start

  -- who is given a part lives
  given_lives : (filled : ℕ) (once : IsGivenOnce forest setup epoch lives before filled) → is_member live once.heir ≡ true
  given_lives filled once =
      let seat = told_local (local_at (case_of setup) epoch 0 owner home) epoch.members once.heir once.given.0
      (subst (λ (locals : List ForestLocal). local_of epoch.members locals once.heir ≡ Some once.given.0) dealt.are once.given.1.1) in
      member_filter_from lives epoch.members once.heir seat.0 once.given.1.0

  -- so the home of a part or its buddy does
  holder_lives : (filled heir : ℕ) (b : Bool) → heir ≡ cond b filled (buddy_of epoch.homes filled (case_of setup).shift) → is_member live heir ≡ true
      → (is_member live filled || is_member live (buddy_of epoch.homes filled (case_of setup).shift)) ≡ true
  holder_lives filled heir true is member =
      or_left (is_member live filled) (is_member live (buddy_of epoch.homes filled (case_of setup).shift)) (subst (λ rank. is_member live rank ≡ true) is member)
  holder_lives filled heir false is member =
      or_right (is_member live filled) (is_member live (buddy_of epoch.homes filled (case_of setup).shift)) (subst (λ rank. is_member live rank ≡ true) is member)

  -- and no part is lost
  pub none_is_lost : (core_after forest setup journal).stored ≡ forest.stored before → first_lost_of epoch.homes (forest.stored before) live (case_of setup).shift ≡ None
  none_is_lost stored =
      (none_lost epoch.homes (forest.stored before) live (case_of setup).shift).1 (λ filled is_home has_block.
      let given = all.given filled (subst (λ (homes : List ℕ). is_member homes filled ≡ true) (sym stored) has_block) in
      holder_lives filled given.0.heir (is_member left filled) given.1 (given_lives filled given.0))

  -- where the members that live go on with their heirs' blocks, and the locals of the next epoch are dealt
  module _ (regained : AreDealt (case_of setup) (restored_epoch lives epoch) 0 (λ i. heir_of epoch.homes live (case_of setup).shift (home i)) home
      (restored_locals forest setup epoch lives before))
      (next_owner next_home : BlockId → ℕ) (next : AreDealt (case_of setup) (core_after forest setup (journal ++ event ∷ [])).epoch 0 next_owner next_home after) where
    -- the members that live are the ranks that do
    live_are : live ≡ left
    live_are =
        sym (dealt_seats (case_of setup) (restored_epoch lives epoch) 0 (λ i. heir_of epoch.homes live (case_of setup).shift (home i)) home
        (restored_locals forest setup epoch lives before) regained)
        ∙ ap (map (λ (local : ForestLocal). local.rank)) (sym all.start)
        ∙ dealt_seats (case_of setup) (core_after forest setup (journal ++ event ∷ [])).epoch 0 next_owner next_home after next
        ∙ all.members

    -- so the next epoch begins with the leaves at their heirs
    heirs_dealt : AreDealt (case_of setup) (epoch_after_restore left epoch) 0 (leaf_heir setup journal event home) home after
    heirs_dealt =
        subst (λ (locals : List ForestLocal). AreDealt (case_of setup) (epoch_after_restore left epoch) 0 (leaf_heir setup journal event home) home locals) (sym all.start)
        (subst (λ (ranks : List ℕ). AreDealt (case_of setup) (epoch_after_restore ranks epoch) 0 (λ i. heir_of epoch.homes ranks (case_of setup).shift (home i)) home
        (restored_locals forest setup epoch lives before)) live_are regained)

    pub gives_to_heirs : All (HasAgreed (case_of setup) epoch home) before
        → AreLeaves (model (case_of setup) (core_after forest setup (journal ++ event ∷ [])).epoch.time) (flat_map (λ (local : ForestLocal). bare_blocks local.blocks) after)
        → GivesToHeirs setup journal event
    gives_to_heirs held leaves = record {
      home = home;
      housed = dealt.housed;
      held = held;
      given = at_owners setup (epoch_after_restore left epoch) (leaf_heir setup journal event home) home after heirs_dealt
          (point_first setup (epoch_after_restore left epoch) (repairs_nowhere left epoch))
          (subst (λ time. AreLeaves (model (case_of setup) time) (flat_map (λ (local : ForestLocal). bare_blocks local.blocks) after)) all.agreed.time leaves);
      dealt = dealt_alike (case_of setup) (epoch_after_restore left epoch) (core_after forest setup (journal ++ event ∷ [])).epoch (leaf_heir setup journal event home) home after
          (sym all.agreed.time) (sym (all.target ∙ all.agreed.time)) (sym all.members) (sym all.agreed.homes) heirs_dealt;
    }
