-- Where the proxies of a map are made, and what each rank knows of those near its leaves.
use Rattle.std.specs.Prelude.{◌≡◌, ℕ, ◌<◌, ◌≤◌, ◌&&◌, true, not, nat_lt, if◌then◌else◌, List, [], ◌∷◌, Contains, filter, flat_map, map}
use Rattle.bf_id.specs.declared.shape.Shape.{Shape}
use Rattle.bf_id.specs.Cube.{Holds, Voxel}
use Rattle.bf_id.specs.Id.{BlockId, box_of, level_of, parent_of, child_of, children_of, touches}
use Rattle.bf_case.specs.Balanced.{AreBalancedLeaves}
use Rattle.bf_case.specs.Wishes.{Wishes}
use Rattle.bf_case.specs.declared.target.Target.{Target}
use Rattle.bf_case.specs.declared.target.Target.TheVariants.{Keep, Refine, Merge}
use Rattle.bf_case.specs.Refinement.{is_among}
use Rattle.bf_links.specs.Links.{link_to, touching}
use Rattle.bf_links.specs.declared.link.Link.{Link}
use Rattle.bf_proxy.specs.declared.proxy.Proxy.{Proxy}
use Rattle.bf_proxy.specs.Joined.{joined}
use Rattle.bf_proxy.specs.Proxies.{gathered, proxies_of, sources_by}

-- the old leaf at whose owner a proxy is made: itself, its parent, or the first of the octet that merges into it
unfoldable pub origin_of : List BlockId → BlockId → BlockId
origin_of ids q = if is_among ids q then q else (if nat_lt 0 (level_of q) && is_among ids (parent_of q) then parent_of q else child_of q 0)

-- the rank at which a proxy is made
abbrev pub home_of : List BlockId → (owner : BlockId → ℕ) → BlockId → ℕ
home_of ids owner q = owner (origin_of ids q)

-- the proxies into which a leaf goes
abbrev pub goes_into : Target → BlockId → List BlockId
goes_into Keep i = i ∷ []
goes_into Refine i = children_of i
goes_into Merge i = parent_of i ∷ []

-- those into which some leaves go
abbrev pub go_into : (BlockId → Target) → List BlockId → List BlockId
go_into target ids = flat_map (λ i. goes_into (target i) i) ids

-- links to the proxies that come of the leaves that touch one, but for those that come of itself
unfoldable pub near_links : Shape → List BlockId → (BlockId → Target) → (owner : BlockId → ℕ) → BlockId → List Link
near_links shape ids target owner i =
    let others = filter (λ q. not (is_among (goes_into (target i) i) q)) (go_into target (filter (touches shape i) ids)) in
    joined (map (link_to (home_of ids owner)) others) []

-- the proxies that come of a leaf of a map, as its rank makes them
abbrev pub made_at : Shape → List BlockId → (BlockId → Target) → (owner : BlockId → ℕ) → BlockId → List Proxy
made_at shape ids target owner i =
    proxies_of shape i (target i) (map (link_to owner) (sources_by (target i) i)) (near_links shape ids target owner i)

-- what a merging leaf knows for the proxy of its octet
abbrev pub outer_links : Shape → List BlockId → (BlockId → Target) → (owner : BlockId → ℕ) → BlockId → List Link
outer_links shape ids target owner i = touching shape (parent_of i) (near_links shape ids target owner i)

-- a proxy that has gathered the outer links of some siblings, one after another
unfoldable pub gathered_from : Shape → List BlockId → (BlockId → Target) → (owner : BlockId → ℕ) → (siblings : List BlockId) → Proxy → Proxy
gathered_from shape ids target owner [] proxy = proxy
gathered_from shape ids target owner (i ∷ siblings) proxy =
    gathered_from shape ids target owner siblings (gathered (outer_links shape ids target owner i) proxy)

-- a regrid of a balanced map, where no leaf of the finest level wishes to be refined
pub record CanRegrid (shape : Shape) (levels : ℕ) (ids : List BlockId) (w : Wishes) : Type 0 where
  pub few : levels ≤ 4
  pub room : (i : BlockId) → Contains ids i → w.finer i ≡ true → level_of i < levels
  pub leaves : AreBalancedLeaves shape levels ids

-- all siblings of the first octant of a parent, and nothing else, in any order
pub record AreOthers (parent : BlockId) (siblings : List BlockId) : Type 0 where
  pub all : (octant : ℕ) → 0 < octant → octant < 8 → Contains siblings (child_of parent octant)
  pub only : (i : BlockId) → Contains siblings i → (octant : ℕ) × (octant < 8) × (i ≡ child_of parent octant)

-- two blocks have a unit in common
abbrev pub ShareUnit : Shape → BlockId → BlockId → Type 0
ShareUnit shape i j = (v : Voxel) × Holds (box_of shape i) v × Holds (box_of shape j) v
