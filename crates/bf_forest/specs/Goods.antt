-- Good vectors of the ranks' locals.
use Rattle.std.specs.Prelude.{◌≡◌, ◌≢◌, ◌↔◌, ◌⊎◌, ℕ, nat_lt, ◌==◌, false, List, [], filter, map, All, AllPairs, Contains, if◌then◌else◌}
use Rattle.bf_buddy.specs.Buddy.{buddy_of}
use Rattle.bf_program.specs.declared.epoch.Epoch.{Epoch}
use Rattle.bf_id.specs.declared.shape.Shape.{Shape}
use Rattle.bf_id.specs.Cube.{Apart, Cube, Holds, Voxel}
use Rattle.bf_id.specs.Id.{BlockId, Touch}
use Rattle.bf_id.specs.Shape.{InDomain}
use Rattle.bf_id.specs.Walk.{IsBefore}
use Rattle.bf_case.specs.declared.case.Case.{Case}
use Rattle.bf_case.specs.Map.{ids_of}
use Rattle.bf_case.specs.Model.{model}
use Rattle.bf_block.specs.declared.point.Point.{Point}
use Rattle.bf_block.specs.Block.{before_regrid, map_at}
use Rattle.bf_forest.specs.declared.setup.Setup.{Setup}
use Rattle.bf_links.specs.declared.link.Link.{Link}
use Rattle.bf_links.specs.Links.{IsLinkOf}
use Rattle.bf_parts.specs.declared.side.Side.{Side}
use Rattle.bf_parts.specs.Leaves.{AreAmong, is_filled, part_of, side_at}
use Rattle.bf_parts.specs.Sides.{bare}
use Rattle.bf_parts.specs.Views.{IsHeld}
use Rattle.bf_rounds.specs.Canonical.{IsTold}
use Rattle.bf_stages.specs.Stages.{telling_of}
use Rattle.bf_msg.specs.declared.linked_block.LinkedBlock.{LinkedBlock}
use Rattle.bf_forest.specs.declared.local.ForestLocal.{ForestLocal}
use Rattle.bf_forest.specs.Meanings.{forest}
use Rattle.bf_forest.specs.ModelBlocks.{blocks_at, blocks_on, IsBlockOn}
use Rattle.bf_stages.specs.Plans.{rounds_of}
use Rattle.bf_forest.specs.Stages.{forest_plan}
use Rattle.bf_forest.specs.Staging.{forest_staging, point_at}

-- the members' locals at the beginning of a round: those that are told by who owns which block and who has which at home
unfoldable pub IsGood : Setup → Epoch → (round : ℕ) → List ForestLocal → Type 0
IsGood setup epoch round locals = IsTold (telling_of forest forest_staging) setup epoch round locals

-- a rank's local: its blocks of the model at the round's point, by rising id, each linked with the leaves that touch it and their owners; its side of the
-- agreed snapshot, whose links name homes, and once all rounds are done its side of the new one
abbrev pub local_at : Case → Epoch → (round : ℕ) → (owner home : BlockId → ℕ) → (rank : ℕ) → ForestLocal
local_at c epoch round owner home rank = record {
  rank = rank;
  blocks = part_of (blocks_on c (point_at c epoch round)) owner rank;
  heard = [];
  buffers = record {
    active = side_at epoch.time epoch.homes c.shift (blocks_at c epoch.time) home rank;
    spare = if nat_lt round (rounds_of forest_plan epoch) then bare else side_at epoch.target epoch.members c.shift (blocks_at c epoch.target) owner rank;
  };
}

-- the model's ids rise, each leaf has an owner among the members, and each of the agreed snapshot its home, of which or of whose buddy some member goes on; and
-- so are the locals
pub record AreDealt (c : Case) (epoch : Epoch) (round : ℕ) (owner home : BlockId → ℕ) (locals : List ForestLocal) : Type 0 where
  pub rising : (p : Point) → AllPairs IsBefore (ids_of (map_at c p))
  pub owned : AreAmong epoch.members (blocks_on c (point_at c epoch round)) owner
  pub housed : AreAmong epoch.homes (blocks_at c epoch.time) home
  pub held : IsHeld (is_filled (blocks_at c epoch.time) home) c.shift epoch.homes epoch.members
  pub are : locals ≡ map (local_at c epoch round owner home) epoch.members

-- a block of a rank at a point: it is a leaf of the model with the model's cells, and its links are exactly to the leaves that touch it, each with its owner
pub record IsLinkedBlock (c : Case) (p : Point) (owner : BlockId → ℕ) (rank : ℕ) (b : LinkedBlock) : Type 0 where
  pub is : IsBlockOn c p b.block
  pub leaf : Contains (ids_of (map_at c p)) b.block.id
  pub owned : owner b.block.id ≡ rank
  pub links : (link : Link) → Contains b.links link ↔ IsLinkOf c.roots (ids_of (map_at c p)) owner b.block.id link

-- what a member has: its blocks, and of the agreed snapshot those of which it is the home and the copies of those of the member whose buddy it is, all linked
pub record HasLinked (c : Case) (epoch : Epoch) (round : ℕ) (owner home : BlockId → ℕ) (local : ForestLocal) : Type 0 where
  pub blocks : All (IsLinkedBlock c (point_at c epoch round) owner local.rank) local.blocks
  pub own : All (IsLinkedBlock c (before_regrid epoch.time) home local.rank) local.buffers.active.own
  pub other : All (IsLinkedBlock c (before_regrid epoch.time) home local.buffers.active.source) local.buffers.active.other

-- two ranks are neighbours: a leaf of the one touches a leaf of the other
pub record AreNeighbors (c : Case) (p : Point) (owner : BlockId → ℕ) (rank other : ℕ) : Type 0 where
  pub apart : (other == rank) ≡ false
  pub own : BlockId
  pub theirs : BlockId
  pub leaf : Contains (ids_of (map_at c p)) own
  pub other_leaf : Contains (ids_of (map_at c p)) theirs
  pub owned : owner own ≡ rank
  pub other_owned : owner theirs ≡ other
  pub touch : Touch c.roots own theirs

-- boxes tile the domain: each unit of it lies in one of them, no unit lies in two, and none of them has a unit outside
pub record TileDomain (shape : Shape) (boxes : List Cube) : Type 0 where
  pub covered : (v : Voxel) → InDomain shape v → (box : Cube) × Contains boxes box × Holds box v
  pub apart : AllPairs Apart boxes
  pub inside : (box : Cube) (v : Voxel) → Contains boxes box → Holds box v → InDomain shape v

-- two members are partners: one of them is the buddy of the other
pub record ArePartners (members : List ℕ) (shift rank other : ℕ) : Type 0 where
  pub apart : rank ≢ other
  pub buddy : (buddy_of members rank shift ≡ other) ⊎ (buddy_of members other shift ≡ rank)

-- what a member, among all, has of the new snapshot: its own blocks, and copies of those of the member whose buddy it is; one that is its own buddy has no copies
pub record HasCopies (shift : ℕ) (epoch : Epoch) (locals : List ForestLocal) (local : ForestLocal) : Type 0 where
  pub time : local.buffers.spare.time ≡ epoch.target
  pub homes : local.buffers.spare.homes ≡ epoch.members
  pub own : local.buffers.spare.own ≡ local.blocks
  pub source_member : Contains epoch.members local.buffers.spare.source
  pub source : buddy_of epoch.members local.buffers.spare.source shift ≡ local.rank
  pub copied : (from : ForestLocal) → Contains locals from → from.rank ≡ local.buffers.spare.source → from.rank ≢ local.rank → local.buffers.spare.other ≡ from.blocks
  pub alone : local.buffers.spare.source ≡ local.rank → local.buffers.spare.other ≡ []

-- a rank's part of a time's map: of exactly those leaves that it owns, in the map's order, the model's blocks, linked with the leaves that touch them
pub record IsPart (c : Case) (time : ℕ) (owner : BlockId → ℕ) (rank : ℕ) (blocks : List LinkedBlock) : Type 0 where
  pub ids : map (λ (b : LinkedBlock). b.block.id) blocks ≡ filter (λ i. owner i == rank) (ids_of (model c time))
  pub linked : All (IsLinkedBlock c (before_regrid time) owner rank) blocks

-- what a rank's side has of a snapshot: the rank's own part, and a copy of that of the home whose buddy it is; one that is its own buddy has no copy
pub record HasParts (c : Case) (time : ℕ) (homes : List ℕ) (home : BlockId → ℕ) (rank : ℕ) (side : Side LinkedBlock) : Type 0 where
  pub its_time : side.time ≡ time
  pub its_homes : side.homes ≡ homes
  pub rank_home : Contains homes rank
  pub source_home : Contains homes side.source
  pub source : buddy_of homes side.source c.shift ≡ rank
  pub own : IsPart c time home rank side.own
  pub copied : side.source ≢ rank → IsPart c time home side.source side.other
  pub alone : side.source ≡ rank → side.other ≡ []

-- what a member has of the agreed snapshot
abbrev pub HasAgreed : Case → Epoch → (home : BlockId → ℕ) → ForestLocal → Type 0
HasAgreed c epoch home local = HasParts c epoch.time epoch.homes home local.rank local.buffers.active

-- a rank is the home of some leaf of a time's map
abbrev pub HasLeaf : Case → (time : ℕ) → (home : BlockId → ℕ) → (rank : ℕ) → Type 0
HasLeaf c time home rank = (leaf : BlockId) × (Contains (ids_of (model c time)) leaf × (home leaf ≡ rank))
