-- The blocks of good locals are together the leaves of the model.
use Rattle.std.proofs.Common.{◌≡◌, ℕ, ◌+◌, ◌-◌, ◌<◌, Bool, true, false, cond, List, [], ◌∷◌, length, get_or, map, flat_map, refl, ap, sym, ◌∙◌, arith, All, subst}
use Rattle.std.specs.Prelude.{IsTrue, ◌&&◌, not, nat_lt, Some, None, filter, slice_index_or}
use Rattle.std.specs.List.{count_by}
use Rattle.std.proofs.lemmas.List.{length-map, get_or-map}
use Rattle.std.proofs.lemmas.List.Elements.{All-nil, All-append, All-map, All-weaker}
use Rattle.bf_id.specs.Id.{BlockId, root_id, id_eq}
use Rattle.bf_buddy.proofs.MemberLemmas.{member_filter}
use Rattle.bf_buddy.specs.Members.{is_member}
use Rattle.bf_buddy.specs.Losses.{first_lost_of}
use Rattle.bf_program.specs.declared.epoch.Epoch.{Epoch}
use Rattle.bf_program.specs.Epochs.{epoch_after_commit, target_in}
use Rattle.bf_program.specs.Restores.{heir_of, restored_epoch, restored_locals}
use Rattle.bf_case.specs.declared.case.Case.{Case}
use Rattle.bf_case.specs.Case.{IsValid}
use Rattle.bf_case.specs.Map.{Leaf, cells_at, ids_of}
use Rattle.bf_case.specs.Model.{model}
use Rattle.bf_forest.specs.declared.setup.Setup.{Setup}
use Rattle.bf_msg.specs.declared.linked_block.LinkedBlock.{LinkedBlock}
use Rattle.bf_msg.specs.LinkedBlocks.{linked_kind}
use Rattle.bf_forest.specs.Setup.{case_of, every_setup_is_valid}
use Rattle.bf_parts.specs.Leaves.{Leaves, AreAmong, part_of, is_filled, side_at}
use Rattle.bf_parts.specs.Counts.{count_append}
use Rattle.bf_parts.specs.CoverLaws.{count_mapped}
use Rattle.bf_parts.specs.StockLaws.{owner_filled}
use Rattle.bf_parts.specs.Sides.{bare}
use Rattle.bf_parts.specs.Spreads.{Trio, view_at}
use Rattle.bf_stages.specs.Stages.{World, IsPlaced, local_told}
use Rattle.bf_stages.proofs.StartLemmas.{made_is, stored_told, counted_told, kept_world, kept_placed, kept_told, regained_world, regained_placed, restored_told}
use Rattle.bf_forest.specs.declared.local.ForestLocal.{ForestLocal}
use Rattle.bf_forest.specs.BlockLaws.{model_map, model_cells, part_are, one_id, some_leaf}
use Rattle.bf_forest.specs.ForestLaws.{sides, staged, spans, whole_span, lawful_forest}
use Rattle.bf_forest.specs.Goods.{IsGood, local_at, AreDealt}
use Rattle.bf_forest.specs.Leaves.{bare_blocks, times_among, AreLeaves}
use Rattle.bf_block.specs.declared.point.Point.{Point}
use Rattle.bf_block.specs.Block.{BlockValue, before_regrid, map_at}
use Rattle.bf_forest.specs.Locals.{local_with}
use Rattle.bf_forest.specs.Meanings.{forest}
use Rattle.bf_forest.specs.ModelBlocks.{blocks_at, blocks_on, IsBlockOn}
use Rattle.bf_forest.specs.StageLaws.{point_end, point_first, rounds_are}
use Rattle.bf_stages.specs.Plans.{rounds_of, stage_of}
use Rattle.bf_forest.specs.Stages.{forest_plan}
use Rattle.bf_forest.specs.Staging.{point_at, trio_in, Runs, forest_staging}

abbrev pub ForestWorld : Type 0
ForestWorld = World BlockId

abbrev pub Placed : Setup → Epoch → (round : ℕ) → ForestWorld → Type 0
Placed setup epoch round world = IsPlaced forest forest_staging setup epoch round world

-- a local that is told, in plain words
told_is : (setup : Setup) (epoch : Epoch) (round : ℕ) (world : ForestWorld) (rank : ℕ)
    → local_told forest forest_staging setup epoch round world rank ≡ local_at (case_of setup) epoch round world.owner world.home rank
unfolding point_at stage_of
told_is setup epoch round world rank =
    let c : Case = case_of setup in
    let trio : Trio BlockId LinkedBlock = trio_in c epoch (stage_of forest_plan epoch round) in
    ap (λ (b : Bool). local_with (view_at c.shift epoch b trio world.owner world.home rank) []) (made_is forest forest_staging setup (staged setup) epoch round)
    ∙ at (nat_lt round (rounds_of forest_plan epoch))
  where
    at : (b : Bool) → local_with (view_at (case_of setup).shift epoch (not b) (trio_in (case_of setup) epoch (stage_of forest_plan epoch round)) world.owner world.home rank) []
        ≡ record (local_at (case_of setup) epoch round world.owner world.home rank) {
          buffers = record (local_at (case_of setup) epoch round world.owner world.home rank).buffers {
            spare = cond b bare (side_at epoch.target epoch.members (case_of setup).shift (blocks_at (case_of setup) epoch.target) world.owner rank);
          };
        }
    at true = refl
    at false = refl

-- so is each good vector
pub locals_are : (setup : Setup) (epoch : Epoch) (round : ℕ) (world : ForestWorld) (ranks : List ℕ)
    → map (local_told forest forest_staging setup epoch round world) ranks ≡ map (local_at (case_of setup) epoch round world.owner world.home) ranks
locals_are setup epoch round world ranks = ap (λ (f : ℕ → ForestLocal). map f ranks) (λ i rank. told_is setup epoch round world rank i)

owned_now : (setup : Setup) (epoch : Epoch) (round : ℕ) (world : ForestWorld) → Placed setup epoch round world → AreAmong epoch.members (blocks_on (case_of setup) (point_at (case_of setup) epoch round)) world.owner
unfolding point_at stage_of
owned_now setup epoch round world placed = placed.owned

-- so the blocks are dealt
pub dealt : (setup : Setup) (epoch : Epoch) (round : ℕ) (world : ForestWorld) (locals : List ForestLocal) → Placed setup epoch round world
    → locals ≡ map (local_told forest forest_staging setup epoch round world) epoch.members → AreDealt (case_of setup) epoch round world.owner world.home locals
dealt setup epoch round world locals placed are = record {
  rising = λ p. (model_map (case_of setup) p (every_setup_is_valid setup)).rising;
  owned = owned_now setup epoch round world placed;
  housed = placed.housed;
  held = placed.held;
  are = are ∙ locals_are setup epoch round world epoch.members;
}

pub all_dealt : (setup : Setup) (epoch : Epoch) (round : ℕ) (locals : List ForestLocal) → IsGood setup epoch round locals
    → (owner : BlockId → ℕ) × (home : BlockId → ℕ) × AreDealt (case_of setup) epoch round owner home locals
unfolding IsGood
all_dealt setup epoch round locals good = (good.world.owner, good.world.home, dealt setup epoch round good.world locals good.fits good.are)

-- and where they are dealt in an epoch that comes up, their owners and homes are placed, and the locals are told
abbrev pub world_of : (owner home : BlockId → ℕ) → ForestWorld
world_of owner home = record { home = home; owner = owner }

pub placed_where_dealt : (setup : Setup) (epoch : Epoch) (round : ℕ) (owner home : BlockId → ℕ) (locals : List ForestLocal) → Runs (case_of setup) epoch
    → AreDealt (case_of setup) epoch round owner home locals → Placed setup epoch round (world_of owner home)
unfolding point_at stage_of
placed_where_dealt setup epoch round owner home locals runs are_dealt = record {
  runs = runs;
  owned = are_dealt.owned;
  housed = are_dealt.housed;
  held = are_dealt.held;
  also = tt;
}

pub told_where_dealt : (setup : Setup) (epoch : Epoch) (round : ℕ) (owner home : BlockId → ℕ) (locals : List ForestLocal) → Runs (case_of setup) epoch
    → AreDealt (case_of setup) epoch round owner home locals → locals ≡ map (local_told forest forest_staging setup epoch round (world_of owner home)) epoch.members
told_where_dealt setup epoch round owner home locals runs are_dealt = are_dealt.are ∙ sym (locals_are setup epoch round (world_of owner home) epoch.members)

-- THE LEAVES OF ALL MEMBERS
abbrev own_blocks : ForestLocal → List BlockValue
own_blocks local = bare_blocks local.blocks

parts_are : (c : Case) (epoch : Epoch) (round : ℕ) (owner home : BlockId → ℕ) (ranks : List ℕ) → IsValid c
    → All (IsBlockOn c (point_at c epoch round)) (flat_map own_blocks (map (local_at c epoch round owner home) ranks))
parts_are c epoch round owner home [] valid = All-nil (IsBlockOn c (point_at c epoch round))
parts_are c epoch round owner home (rank ∷ ranks) valid =
    let p : Point = point_at c epoch round in
    All-append (IsBlockOn c p) (bare_blocks (part_of (blocks_on c p) owner rank)) (flat_map own_blocks (map (local_at c epoch round owner home) ranks))
    (All-map (IsBlockOn c p) (λ (b : LinkedBlock). b.block) (part_of (blocks_on c p) owner rank) (part_are c p owner rank valid))
    (parts_are c epoch round owner home ranks valid)

-- links count for nothing
bare_counted : (test : BlockValue → Bool) (locals : List ForestLocal)
    → count_by test (flat_map own_blocks locals) ≡ count_by (λ (b : LinkedBlock). test b.block) (flat_map (λ (local : ForestLocal). local.blocks) locals)
bare_counted test [] = refl
bare_counted test (local ∷ locals) =
    count_append test (own_blocks local) (flat_map own_blocks locals)
    ∙ ap (λ n. n + count_by test (flat_map own_blocks locals)) (count_mapped (λ (b : LinkedBlock). b.block) test (λ (b : LinkedBlock). test b.block) (λ b. refl) local.blocks)
    ∙ ap (λ n. count_by (λ (b : LinkedBlock). test b.block) local.blocks + n) (bare_counted test locals)
    ∙ sym (count_append (λ (b : LinkedBlock). test b.block) local.blocks (flat_map (λ (local : ForestLocal). local.blocks) locals))

-- counted by a test of their ids
counted : (setup : Setup) (epoch : Epoch) (round : ℕ) (locals : List ForestLocal) → IsGood setup epoch round locals → (test : BlockId → Bool)
    → count_by (λ (b : BlockValue). test b.id) (flat_map own_blocks locals) ≡ count_by test (ids_of (map_at (case_of setup) (point_at (case_of setup) epoch round)))
unfolding IsGood point_at stage_of blocks_on
counted setup epoch round locals good test =
    bare_counted (λ b. test b.id) locals
    ∙ ap (λ (ls : List ForestLocal). count_by (λ (b : LinkedBlock). test b.block.id) (flat_map (λ (local : ForestLocal). local.blocks) ls)) good.are
    ∙ counted_told forest forest_staging linked_kind setup (sides setup) epoch round good.world (λ (b : LinkedBlock). test b.block.id) good.fits

pub good_leaves : (setup : Setup) (epoch : Epoch) (round : ℕ) (locals : List ForestLocal) → IsGood setup epoch round locals
    → AreLeaves (map_at (case_of setup) (point_at (case_of setup) epoch round)) (flat_map own_blocks locals)
good_leaves setup epoch round locals good = record {
  cells = All-weaker (IsBlockOn c p) (λ (b : BlockValue). cells_at leaves b.id ≡ Some b.cells) (λ b is. model_cells c p b is) blocks
      (subst (λ (ls : List ForestLocal). All (IsBlockOn c p) (flat_map own_blocks ls)) (sym has.2.are)
      (parts_are c epoch round has.0 has.1 epoch.members (every_setup_is_valid setup)));
  once = λ k d within.
      let same : get_or (ids_of leaves) k d.0 ≡ (get_or leaves k d).0 = get_or-map (λ (leaf : Leaf). leaf.0) leaves k d d.0 within in
      let below : k < length (ids_of leaves) = omega (arith, within, length-map leaves (λ (leaf : Leaf). leaf.0)) in
      ap (times_among blocks) (sym same)
      ∙ counted setup epoch round locals good (λ i. id_eq i (get_or (ids_of leaves) k d.0))
      ∙ one_id c p k d.0 (every_setup_is_valid setup) below;
}
  where
    c : Case
    c = case_of setup

    p : Point
    p = point_at c epoch round

    leaves : List Leaf
    leaves = map_at c p

    blocks : List BlockValue
    blocks = flat_map own_blocks locals

    has : (owner : BlockId → ℕ) × (home : BlockId → ℕ) × AreDealt c epoch round owner home locals
    has = all_dealt setup epoch round locals good

-- the blocks at the end of an epoch
pub last_leaves : (setup : Setup) (epoch : Epoch) (locals : List ForestLocal) → IsGood setup epoch (rounds_of forest_plan epoch) locals
    → AreLeaves (model (case_of setup) epoch.target) (flat_map own_blocks locals)
last_leaves setup epoch locals good =
    subst (λ (p : Point). AreLeaves (map_at (case_of setup) p) (flat_map own_blocks locals))
    (point_end (case_of setup) epoch (rounds_of forest_plan epoch) (let many = rounds_are epoch in omega (arith, many))) (good_leaves setup epoch (rounds_of forest_plan epoch) locals good)

-- A COMMIT
pub all_kept : (setup : Setup) (epoch : Epoch) (owner home : BlockId → ℕ) (locals : List ForestLocal) → Runs (case_of setup) epoch
    → AreDealt (case_of setup) epoch (rounds_of forest_plan epoch) owner home locals → epoch.target < (case_of setup).steps
    → AreDealt (case_of setup) (epoch_after_commit (case_of setup).steps (case_of setup).snapshot epoch) 0 owner owner (map forest.keep locals)
all_kept setup epoch owner home locals runs are_dealt goes_on =
    let last : ℕ = rounds_of forest_plan epoch in
    let next : Epoch = epoch_after_commit (case_of setup).steps (case_of setup).snapshot epoch in
    let world : ForestWorld = world_of owner home in
    let fits : Placed setup epoch last world = placed_where_dealt setup epoch last owner home locals runs are_dealt in
    let after : ForestWorld = kept_world forest forest_staging linked_kind setup (staged setup) (sides setup) (spans setup) world in
    let placed : Placed setup next 0 after = kept_placed forest forest_staging linked_kind setup (staged setup) (sides setup) (spans setup) epoch world fits goes_on in
    dealt setup next 0 after (map forest.keep locals) placed
    (ap (map forest.keep) (told_where_dealt setup epoch last owner home locals runs are_dealt)
    ∙ kept_told forest forest_staging linked_kind setup (staged setup) (sides setup) (spans setup) epoch world fits goes_on)

-- A RESTORE
pub restored_leaves : (setup : Setup) (epoch : Epoch) (round : ℕ) (locals : List ForestLocal) (lives : ℕ → Bool) → IsGood setup epoch round locals
    → first_lost_of epoch.homes (forest.stored locals) (filter lives epoch.members) (forest.shift setup) ≡ None
    → AreLeaves (model (case_of setup) epoch.time) (flat_map own_blocks (restored_locals forest setup epoch lives locals))
unfolding IsGood
restored_leaves setup epoch round locals lives good none =
    let next : Epoch = restored_epoch lives epoch in
    let after : List ForestLocal = restored_locals forest setup epoch lives locals in
    let restored : IsGood setup next 0 after = (lawful_forest setup).goods.restore epoch round locals lives good none in
    subst (λ (p : Point). AreLeaves (map_at (case_of setup) p) (flat_map own_blocks after)) (point_first setup next (whole_span setup next restored.fits.runs)) (good_leaves setup next 0 after restored)

-- who lives goes on with the blocks whose heir it is
pub all_regained : (setup : Setup) (epoch : Epoch) (round : ℕ) (owner home : BlockId → ℕ) (locals : List ForestLocal) (lives : ℕ → Bool) → Runs (case_of setup) epoch
    → AreDealt (case_of setup) epoch round owner home locals
    → first_lost_of epoch.homes (forest.stored locals) (filter lives epoch.members) (forest.shift setup) ≡ None
    → AreDealt (case_of setup) (restored_epoch lives epoch) 0 (λ i. heir_of epoch.homes (filter lives epoch.members) (case_of setup).shift (home i)) home
    (restored_locals forest setup epoch lives locals)
all_regained setup epoch round owner home locals lives runs are_dealt none =
    let world : ForestWorld = world_of owner home in
    let fits : Placed setup epoch round world = placed_where_dealt setup epoch round owner home locals runs are_dealt in
    let told : locals ≡ map (local_told forest forest_staging setup epoch round world) epoch.members = told_where_dealt setup epoch round owner home locals runs are_dealt in
    let after : ForestWorld = regained_world forest forest_staging linked_kind setup (staged setup) (sides setup) (spans setup) epoch lives world in
    let none_told : first_lost_of epoch.homes (forest.stored (map (local_told forest forest_staging setup epoch round world) epoch.members)) (filter lives epoch.members) (forest.shift setup) ≡ None =
    ap (λ (ls : List ForestLocal). first_lost_of epoch.homes (forest.stored ls) (filter lives epoch.members) (forest.shift setup)) (sym told) ∙ none in
    let placed : Placed setup (restored_epoch lives epoch) 0 after = regained_placed forest forest_staging linked_kind setup (staged setup) (sides setup) (spans setup) epoch round world lives fits none_told in
    dealt setup (restored_epoch lives epoch) 0 after (restored_locals forest setup epoch lives locals) placed
    (ap (restored_locals forest setup epoch lives) told
    ∙ restored_told forest forest_staging linked_kind setup (staged setup) (sides setup) (spans setup) epoch round world lives fits)

-- THE NUMBER OF ROUNDS, and a home that has a block
pub round_each : (setup : Setup) (epoch : Epoch) (round : ℕ) (locals : List ForestLocal) → IsGood setup epoch round locals → rounds_of forest_plan epoch ≡ epoch.target - epoch.time + 1
unfolding IsGood
round_each setup epoch round locals good = let whole = whole_span setup epoch good.fits.runs in let many = rounds_are epoch in omega (arith, many, whole)

pub ends_at : (setup : Setup) (epoch : Epoch) (round : ℕ) (locals : List ForestLocal) → IsGood setup epoch round locals
    → epoch.target ≡ target_in (case_of setup).steps (case_of setup).snapshot epoch
unfolding IsGood
ends_at setup epoch round locals good = good.fits.runs.ends

pub some_home : (setup : Setup) (epoch : Epoch) (round : ℕ) (locals : List ForestLocal) → IsGood setup epoch round locals
    → (home : ℕ) × IsTrue (is_member (forest.stored locals) home)
unfolding IsGood
some_home setup epoch round locals good =
    let c : Case = case_of setup in
    let leaves : Leaves BlockId LinkedBlock = blocks_at c epoch.time in
    let some : 0 < length leaves.keys = some_leaf c (before_regrid epoch.time) (every_setup_is_valid setup) in
    let i : BlockId = slice_index_or leaves.keys 0 (root_id 0) in
    let home : ℕ = good.world.home i in
    let is_home : is_member epoch.homes home ≡ true = good.fits.housed 0 (root_id 0) some in
    let full : is_filled leaves good.world.home home ≡ true = owner_filled leaves good.world.home 0 (root_id 0) some in
    let both : (is_member epoch.homes home && is_filled leaves good.world.home home) ≡ true = rw (is_home, full) refl in (
      home,
      ap (λ (ls : List ForestLocal). is_member (forest.stored ls) home) good.are
          ∙ ap (λ homes. is_member homes home) (stored_told forest forest_staging linked_kind setup (sides setup) epoch round good.world good.fits)
          ∙ member_filter (is_filled leaves good.world.home) epoch.homes home ∙ both,
    )
