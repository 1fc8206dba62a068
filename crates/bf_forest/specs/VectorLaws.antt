-- What members have and tell where blocks are dealt to them: linked blocks, parts of the agreed snapshot, neighbours, strips.
use Rattle.std.proofs.Common.{◌≡◌, ℕ, Bool, true, false, cond, List, [], ◌⊎◌, inl, inr, Contains, filter, refl, sym, ap, subst, ◌∙◌, All}
use Rattle.std.specs.Prelude.{◌==◌, ◌&&◌, ◌↔◌, not, IsTrue}
use Rattle.std.specs.List.{list_any}
use Rattle.std.proofs.lemmas.Bool.{and_from, and_parts, or_cases, eq-eqb, eqb-true, false_from_ne_true}
use Rattle.std.specs.List.Sorted.{IsStrictlyIncreasing}
use Rattle.std.proofs.lemmas.List.{map-id}
use Rattle.std.proofs.lemmas.List.Elements.{All-nil, All-contains}
use Rattle.bf_lemmas.proofs.Lists.{All-from_Contains, map_twice}
use Rattle.bf_buddy.specs.Buddy.{buddy_of, predecessor_of}
use Rattle.bf_buddy.specs.Members.{is_member}
use Rattle.bf_buddy.proofs.LawLemmas.{buddy_undoes}
use Rattle.bf_buddy.proofs.MemberLemmas.{member_filter}
use Rattle.bf_id.specs.Id.{BlockId, touches}
use Rattle.bf_case.specs.declared.case.Case.{Case}
use Rattle.bf_case.specs.Case.{IsValid}
use Rattle.bf_block.specs.declared.point.Point.{Point}
use Rattle.bf_block.specs.Block.{before_regrid, map_at}
use Rattle.bf_case.specs.Map.{ids_of}
use Rattle.bf_case.specs.Model.{model}
use Rattle.bf_case.proofs.ListLemmas.{Contains-map_cases}
use Rattle.bf_case.proofs.TestLemmas.{touches_decides, any_from_passes, passes_from_any, Contains-filter, Contains-filter_cases}
use Rattle.bf_links.specs.declared.link.Link.{Link}
use Rattle.bf_links.specs.Links.{is_owner, links_of, IsLinkOf}
use Rattle.bf_links.proofs.LinkLemmas.{links_exact}
use Rattle.bf_ghost.specs.Strips.{StripValue}
use Rattle.bf_ghost.specs.Telling.{told_strips}
use Rattle.bf_parts.specs.Leaves.{copy_at, is_filled, part_of, side_at}
use Rattle.bf_parts.specs.SideLaws.{predecessor_member}
use Rattle.bf_program.specs.declared.epoch.Epoch.{Epoch}
use Rattle.bf_stages.proofs.StartLemmas.{stored_told}
use Rattle.bf_stages.specs.Plans.{stage_of}
use Rattle.bf_msg.specs.LinkedBlocks.{linked_kind}
use Rattle.bf_msg.specs.declared.linked_block.LinkedBlock.{LinkedBlock}
use Rattle.bf_msg.specs.declared.message.Message.TheVariants.{Step as StepMessage}
use Rattle.bf_forest.specs.declared.local.ForestLocal.{ForestLocal}
use Rattle.bf_forest.specs.declared.setup.Setup.{Setup}
use Rattle.bf_forest.specs.declared.stage.Stage.{Stage}
use Rattle.bf_forest.specs.declared.stage.Stage.TheVariants.{Step}
use Rattle.bf_forest.specs.Setup.{case_of, every_setup_is_valid}
use Rattle.bf_forest.specs.BlockLaws.{block_is, part_each}
use Rattle.bf_forest.specs.Goods.{local_at, AreDealt, AreNeighbors, HasAgreed, HasLeaf, HasLinked, HasParts, IsLinkedBlock, IsPart}
use Rattle.bf_forest.specs.ForestLaws.{sides}
use Rattle.bf_forest.specs.LeafLaws.{placed_where_dealt, told_where_dealt, world_of}
use Rattle.bf_forest.specs.Meanings.{forest}
use Rattle.bf_forest.specs.ModelBlocks.{blocks_at, blocks_on, linked_at, linked_on}
use Rattle.bf_forest.specs.NeighborLaws.{linked_is}
use Rattle.bf_forest.specs.Rounds.{is_linked, is_neighbor, play_of, strips_to}
use Rattle.bf_forest.specs.Stages.{forest_plan}
use Rattle.bf_forest.specs.Staging.{point_at, Runs, forest_staging}
use Rattle.bf_forest.specs.StripLaws.{member_contains, part_tells}

-- LINKS
part_linked : (c : Case) (p : Point) (owner : BlockId → ℕ) (rank : ℕ) → IsValid c → All (IsLinkedBlock c p owner rank) (part_of (blocks_on c p) owner rank)
part_linked c p owner rank valid = part_each (IsLinkedBlock c p owner rank) c p owner rank (λ i has its. record {
  is = block_is c p i valid has;
  leaf = has;
  owned = eqb-true (owner i) rank its;
  links = links_exact c.roots (ids_of (map_at c p)) owner i;
})

copy_linked : (c : Case) (p : Point) (owner : BlockId → ℕ) (rank from : ℕ) → IsValid c → All (IsLinkedBlock c p owner from) (copy_at (blocks_on c p) owner rank from)
copy_linked c p owner rank from valid = by (from == rank)
  where
    by : (b : Bool) → All (IsLinkedBlock c p owner from) (cond b [] (part_of (blocks_on c p) owner from))
    by true = All-nil (IsLinkedBlock c p owner from)
    by false = part_linked c p owner from valid

local_linked : (c : Case) (epoch : Epoch) (round : ℕ) (owner home : BlockId → ℕ) (rank : ℕ) → IsValid c → HasLinked c epoch round owner home (local_at c epoch round owner home rank)
local_linked c epoch round owner home rank valid = record {
  blocks = part_linked c (point_at c epoch round) owner rank valid;
  own = part_linked c (before_regrid epoch.time) home rank valid;
  other = copy_linked c (before_regrid epoch.time) home rank _ valid;
}

-- a member's local is that of its rank
local_is : (c : Case) (epoch : Epoch) (round : ℕ) (owner home : BlockId → ℕ) (locals : List ForestLocal) (local : ForestLocal) → AreDealt c epoch round owner home locals → Contains locals local
    → (rank : ℕ) × Contains epoch.members rank × (local ≡ local_at c epoch round owner home rank)
local_is c epoch round owner home locals local dealt has = Contains-map_cases (local_at c epoch round owner home) epoch.members local (subst (λ (l : List ForestLocal). Contains l local) dealt.are has)

pub all_linked : (setup : Setup) (epoch : Epoch) (round : ℕ) (owner home : BlockId → ℕ) (locals : List ForestLocal) → AreDealt (case_of setup) epoch round owner home locals
    → All (HasLinked (case_of setup) epoch round owner home) locals
all_linked setup epoch round owner home locals dealt =
    let c : Case = case_of setup in
    All-from_Contains (HasLinked c epoch round owner home) locals (λ local there.
    let is = local_is c epoch round owner home locals local dealt there in
    subst (HasLinked c epoch round owner home) (sym is.2) (local_linked c epoch round owner home is.0 (every_setup_is_valid setup)))

-- THE AGREED SNAPSHOT
part_is : (c : Case) (time : ℕ) (owner : BlockId → ℕ) (rank : ℕ) → IsValid c → IsPart c time owner rank (part_of (blocks_at c time) owner rank)
unfolding part_of blocks_on
part_is c time owner rank valid =
    let ids : List BlockId = filter (λ i. owner i == rank) (ids_of (model c time)) in
    record {
      ids = map_twice (λ (b : LinkedBlock). b.block.id) (linked_at c time owner) (λ i. i) (λ i. refl) ids ∙ map-id ids;
      linked = part_linked c (before_regrid time) owner rank valid;
    }

-- a home's side of a snapshot has its parts
pub parts_at : (c : Case) (time : ℕ) (homes : List ℕ) (home : BlockId → ℕ) (rank : ℕ) → IsValid c → IsStrictlyIncreasing homes → is_member homes rank ≡ true
    → HasParts c time homes home rank (side_at time homes c.shift (blocks_at c time) home rank)
parts_at c time homes home rank valid rise is_home =
    let source : ℕ = predecessor_of homes rank c.shift in
    let part : ℕ → List LinkedBlock = part_of (blocks_at c time) home in
    record {
      its_time = refl;
      its_homes = refl;
      rank_home = member_contains homes rank is_home;
      source_home = member_contains homes source (predecessor_member homes rank c.shift rise is_home);
      source = buddy_undoes homes rank c.shift rise is_home;
      own = part_is c time home rank valid;
      copied = λ apart.
          subst (IsPart c time home source) (sym (ap (λ b. cond b [] (part source)) (false_from_ne_true (source == rank) (λ same. apart (eqb-true source rank same)))))
          (part_is c time home source valid);
      alone = λ own. ap (λ b. cond b [] (part source)) (eq-eqb source rank own);
    }

pub all_agreed : (setup : Setup) (epoch : Epoch) (round : ℕ) (owner home : BlockId → ℕ) (locals : List ForestLocal) → AreDealt (case_of setup) epoch round owner home locals
    → All (HasAgreed (case_of setup) epoch home) locals
all_agreed setup epoch round owner home locals dealt =
    let c : Case = case_of setup in
    All-from_Contains (HasAgreed c epoch home) locals (λ local there.
    let is = local_is c epoch round owner home locals local dealt there in
    subst (HasAgreed c epoch home) (sym is.2)
    (parts_at c epoch.time epoch.homes home is.0 (every_setup_is_valid setup) dealt.held.homes_rise
    (dealt.held.among is.0 (any_from_passes (λ member. member == is.0) epoch.members is.0 is.1 (eq-eqb is.0 is.0 refl)))))

-- the homes that have a leaf are those whose part has a block
pub all_stored : (setup : Setup) (epoch : Epoch) (round : ℕ) (owner home : BlockId → ℕ) (locals : List ForestLocal) (rank : ℕ) → Runs (case_of setup) epoch
    → AreDealt (case_of setup) epoch round owner home locals → IsTrue (is_member (forest.stored locals) rank) ↔ HasLeaf (case_of setup) epoch.time home rank
unfolding blocks_on is_filled
all_stored setup epoch round owner home locals rank runs dealt =
    let c : Case = case_of setup in
    let ids : List BlockId = ids_of (model c epoch.time) in
    let is_its : BlockId → Bool = λ i. home i == rank in
    let stored : is_member (forest.stored locals) rank ≡ (is_member epoch.homes rank && list_any is_its ids) =
    ap (λ (ls : List ForestLocal). is_member (forest.stored ls) rank) (told_where_dealt setup epoch round owner home locals runs dealt)
    ∙ ap (λ homes. is_member homes rank)
    (stored_told forest forest_staging linked_kind setup (sides setup) epoch round (world_of owner home) (placed_where_dealt setup epoch round owner home locals runs dealt))
    ∙ member_filter (is_filled (blocks_at c epoch.time) home) epoch.homes rank in (
      λ in_stored.
          let found = passes_from_any is_its ids (and_parts (is_member epoch.homes rank) _ (sym stored ∙ in_stored)).1 in
          (found.0, (found.1, eqb-true (home found.0) rank found.2)),
      λ has.
          let filled : list_any is_its ids ≡ true = any_from_passes is_its ids has.0 has.1.0 (eq-eqb (home has.0) rank has.1.1) in
          let is_home : is_member epoch.homes rank ≡ true =
          subst (λ r. is_member epoch.homes r ≡ true) has.1.1 (All-contains (λ i. is_member epoch.homes (home i) ≡ true) ids has.0 dealt.housed has.1.0) in
          stored ∙ rw (is_home, filled) refl,
    )

-- each leaf has a home, and that or its buddy is a member
pub all_housed : (setup : Setup) (epoch : Epoch) (round : ℕ) (owner home : BlockId → ℕ) (locals : List ForestLocal) (leaf : BlockId) → AreDealt (case_of setup) epoch round owner home locals
    → Contains (ids_of (model (case_of setup) epoch.time)) leaf
    → Contains epoch.homes (home leaf) × (Contains epoch.members (home leaf) ⊎ Contains epoch.members (buddy_of epoch.homes (home leaf) (case_of setup).shift))
unfolding blocks_on is_filled
all_housed setup epoch round owner home locals leaf dealt there =
    let c : Case = case_of setup in
    let ids : List BlockId = ids_of (model c epoch.time) in
    let buddy : ℕ = buddy_of epoch.homes (home leaf) c.shift in
    let is_home : is_member epoch.homes (home leaf) ≡ true = All-contains (λ i. is_member epoch.homes (home i) ≡ true) ids leaf dealt.housed there in
    let filled : list_any (λ i. home i == home leaf) ids ≡ true = any_from_passes (λ i. home i == home leaf) ids leaf there (eq-eqb (home leaf) (home leaf) refl) in (
      member_contains epoch.homes (home leaf) is_home,
      elim (or_cases (is_member epoch.members (home leaf)) (is_member epoch.members buddy) (dealt.held.safe (home leaf) is_home filled)) [
        | inl itself ↦ inl (member_contains epoch.members (home leaf) itself)
        | inr other ↦ inr (member_contains epoch.members buddy other)
      ],
    )

-- NEIGHBOURS
module _ (c : Case) (p : Point) (owner : BlockId → ℕ) where
  abbrev ids : List BlockId
  ids = ids_of (map_at c p)

  abbrev part : ℕ → List LinkedBlock
  part = part_of (blocks_on c p) owner

  sees : (rank other : ℕ) → is_neighbor rank (part rank) other ≡ true → AreNeighbors c p owner rank other
  unfolding is_neighbor part_of blocks_on
  sees rank other test =
      let both = and_parts (not (other == rank)) (list_any (is_linked other) (part rank)) test in
      let one = passes_from_any (is_linked other) (part rank) both.1 in
      let at = Contains-map_cases (linked_on c p owner) (filter (λ i. owner i == rank) ids) one.0 one.1 in
      let its = Contains-filter_cases (λ i. owner i == rank) ids at.0 at.1 in
      let linked : is_owner (links_of c.roots ids owner at.0) other ≡ true = ap (λ (b : LinkedBlock). is_owner b.links other) (sym at.2) ∙ one.2 in
      let link = passes_from_any (λ (l : Link). l.owner == other) (links_of c.roots ids owner at.0) linked in
      let near : IsLinkOf c.roots ids owner at.0 link.0 = (links_exact c.roots ids owner at.0 link.0).0 link.1 in
      record {
        apart = not_true (other == rank) both.0;
        own = at.0;
        theirs = link.0.id;
        leaf = its.0;
        other_leaf = near.leaf;
        owned = eqb-true (owner at.0) rank its.1;
        other_owned = sym near.owned ∙ eqb-true link.0.owner other link.2;
        touch = near.touch;
      }
    where
      not_true : (b : Bool) → not b ≡ true → b ≡ false
      not_true true wrong = absurd (cc)
      not_true false is = refl

  seen : (rank other : ℕ) → AreNeighbors c p owner rank other → is_neighbor rank (part rank) other ≡ true
  unfolding is_neighbor
  seen rank other are =
      let near : list_any (λ j. touches c.roots are.own j && owner j == other) ids ≡ true =
      any_from_passes (λ j. touches c.roots are.own j && owner j == other) ids are.theirs are.other_leaf
      (and_from (touches c.roots are.own are.theirs) (owner are.theirs == other) ((touches_decides c.roots are.own are.theirs).1 are.touch) (eq-eqb (owner are.theirs) other are.other_owned)) in
      let some : list_any (λ i. owner i == rank && list_any (λ j. touches c.roots i j && owner j == other) ids) ids ≡ true =
      any_from_passes (λ i. owner i == rank && list_any (λ j. touches c.roots i j && owner j == other) ids) ids are.own are.leaf
      (and_from (owner are.own == rank) (list_any (λ j. touches c.roots are.own j && owner j == other) ids) (eq-eqb (owner are.own) rank are.owned) near) in
      and_from (not (other == rank)) (list_any (is_linked other) (part rank)) (ap not are.apart) (linked_is c p owner rank other ∙ some)

pub step_peers : (setup : Setup) (epoch : Epoch) (round time : ℕ) (owner home : BlockId → ℕ) (locals : List ForestLocal) (local : ForestLocal) (other : ℕ)
    → AreDealt (case_of setup) epoch round owner home locals → stage_of forest_plan epoch round ≡ Step time → Contains locals local
    → Contains (forest.peers setup local epoch round) other ↔ (Contains epoch.members other × AreNeighbors (case_of setup) (point_at (case_of setup) epoch round) owner local.rank other)
step_peers setup epoch round time owner home locals local other dealt stage there =
    let c : Case = case_of setup in
    let is = local_is c epoch round owner home locals local dealt there in
    let rank = is.0 in
    let sees_other : ℕ → Bool = is_neighbor rank (part_of (blocks_on c (point_at c epoch round)) owner rank) in
    let peers : forest.peers setup local epoch round ≡ filter sees_other epoch.members =
    ap (λ (s : Stage). (play_of c epoch s).peers epoch.members local) stage
    ∙ ap (λ (l : ForestLocal). filter (is_neighbor l.rank l.blocks) epoch.members) is.2 in
    let same : local.rank ≡ rank = ap (λ (l : ForestLocal). l.rank) is.2 in (
      λ in_peers.
          let one = Contains-filter_cases sees_other epoch.members other (subst (λ (l : List ℕ). Contains l other) peers in_peers) in
          (one.0, subst (λ r. AreNeighbors c (point_at c epoch round) owner r other) (sym same) (sees c (point_at c epoch round) owner rank other one.1)),
      λ near.
          subst (λ (l : List ℕ). Contains l other) (sym peers)
          (Contains-filter sees_other epoch.members other near.0
          (seen c (point_at c epoch round) owner rank other (subst (λ r. AreNeighbors c (point_at c epoch round) owner r other) same near.1))),
    )

-- STRIPS
pub step_tells : (setup : Setup) (epoch : Epoch) (round time : ℕ) (owner home : BlockId → ℕ) (locals : List ForestLocal) (local : ForestLocal) (to : ℕ)
    → AreDealt (case_of setup) epoch round owner home locals → stage_of forest_plan epoch round ≡ Step time → Contains locals local
    → (forest.out setup local epoch round to).1 ≡ StepMessage (told_strips (case_of setup).roots (map_at (case_of setup) (point_at (case_of setup) epoch round)) owner local.rank to)
step_tells setup epoch round time owner home locals local to dealt stage there =
    let c : Case = case_of setup in
    let is = local_is c epoch round owner home locals local dealt there in
    ap (λ (s : Stage). ((play_of c epoch s).out local to).1) stage
    ∙ ap (λ (l : ForestLocal). StepMessage (strips_to to l.blocks)) is.2
    ∙ ap (λ (strips : List StripValue). StepMessage strips) (part_tells c (point_at c epoch round) (every_setup_is_valid setup) owner is.0 to)
    ∙ ap (λ (rank : ℕ). StepMessage (told_strips c.roots (map_at c (point_at c epoch round)) owner rank to)) (sym (ap (λ (l : ForestLocal). l.rank) is.2))
