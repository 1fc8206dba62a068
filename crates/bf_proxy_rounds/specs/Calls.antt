-- What the calls of a rank are given, and what is asked of it.
use Rattle.std.specs.Prelude.{◌≡◌, ℕ, ◌<◌, ◌≤◌, not, List, [], ◌∷◌, ◌++◌, All, AllPairs, Contains, filter, flat_map, length, map, unwrap_or}
use Rattle.bf_id.specs.declared.shape.Shape.{Shape}
use Rattle.bf_id.specs.Id.{BlockId, InShape, level_of, parent_of}
use Rattle.bf_id.specs.Walk.{IsBefore}
use Rattle.bf_case.specs.Refinement.{is_among}
use Rattle.bf_case.specs.Regrid.{heirs_by}
use Rattle.bf_case.specs.declared.target.Target.{Target}
use Rattle.bf_case.specs.declared.target.Target.TheVariants.{Merge, Refine}
use Rattle.bf_links.specs.Links.{link_to, owner_of, touching, ComesBefore}
use Rattle.bf_links.specs.declared.link.Link.{Link}
use Rattle.bf_marks.specs.Marks.{target_by, MarksValue}
use Rattle.bf_proxy.specs.Homes.{goes_into}
use Rattle.bf_proxy.specs.Joined.{joined, AgreeOnOwners}
use Rattle.bf_proxy.specs.Proxies.{known_links, proxies_of, sources_by}
use Rattle.bf_proxy.specs.declared.proxy.Proxy.{Proxy}
use Rattle.bf_proxy_rounds.specs.Plays.{all_gathered, linked_leaves, own_homes, LinkedLeaf, Outer, Proxying}

-- a rank of these marks of its leaves, of the leaves' links in their order, and of these homes of which it heard
abbrev pub knowing : (rank : ℕ) → MarksValue → (links : List (List Link)) → (homes : List Link) → Proxying
knowing rank marks links homes = record { marking = record { rank = rank; links = links; marks = marks }; homes = homes; proxies = [] }

-- who has a sibling, by a leaf's links
abbrev pub sibling_by : (rank : ℕ) → (links : List Link) → BlockId → ℕ
sibling_by rank links sibling = unwrap_or (owner_of links sibling) rank

-- the leaves of which the proxies come that come of a leaf, each with its rank
abbrev pub sources_of : (rank : ℕ) → Target → BlockId → (links : List Link) → List Link
sources_of rank target i links = map (link_to (sibling_by rank links)) (sources_by target i)

-- links to what a leaf goes into, all made at one rank
abbrev pub goals_of : Target → BlockId → (home : ℕ) → List Link
goals_of target i home = map (link_to (λ q. home)) (goes_into target i)

-- where that is made into which a linked leaf goes, by the homes of all merging leaves that are known
abbrev pub home_by : (homes : List Link) → Link → ℕ
home_by homes link = unwrap_or (owner_of homes link.id) link.owner

-- links to what the leaves go into that are linked with one
abbrev pub linked_goals : MarksValue → (homes links : List Link) → List Link
linked_goals marks homes links = flat_map (λ (link : Link). goals_of (target_by marks link.id) link.id (home_by homes link)) links

-- those of them, by rising id, into which the leaf itself doesn't go
abbrev pub near_by : MarksValue → (homes : List Link) → BlockId → (links : List Link) → List Link
near_by marks homes i links = joined (filter (λ (link : Link). not (is_among (goes_into (target_by marks i) i) link.id)) (linked_goals marks homes links)) []

-- the proxies that come of a leaf
abbrev pub proxies_by : Shape → (rank : ℕ) → MarksValue → (homes : List Link) → LinkedLeaf → List Proxy
proxies_by shape rank marks homes leaf =
    proxies_of shape leaf.0 (target_by marks leaf.0) (sources_of rank (target_by marks leaf.0) leaf.0 leaf.1) (near_by marks homes leaf.0 leaf.1)

-- a leaf that is refined has room for it below
abbrev pub HasRoom : MarksValue → BlockId → Type 0
HasRoom marks i = target_by marks i ≡ Refine → level_of i < 4

-- what is asked of an own leaf with its links, so that what comes of it can be made and told
pub record IsMakable (shape : Shape) (rank : ℕ) (marks : MarksValue) (homes : List Link) (leaf : LinkedLeaf) : Type 0 where
  pub inside : InShape shape leaf.0
  pub room : HasRoom marks leaf.0
  pub deep : target_by marks leaf.0 ≡ Merge → 0 < level_of leaf.0
  pub linked_room : All (λ (link : Link). HasRoom marks link.id) leaf.1
  pub near_inside : All (λ (link : Link). InShape shape link.id) (near_by marks homes leaf.0 leaf.1)
  pub others : All (λ (link : Link). Contains (heirs_by (target_by marks leaf.0) leaf.0) link.id → ⊥) (near_by marks homes leaf.0 leaf.1)
  pub few : All (λ q. length (touching shape q (known_links (target_by marks leaf.0) leaf.0 (sources_of rank (target_by marks leaf.0) leaf.0 leaf.1) (near_by marks homes leaf.0 leaf.1))) ≤ 56)
      (heirs_by (target_by marks leaf.0) leaf.0)
  pub few_outer : target_by marks leaf.0 ≡ Merge → length (touching shape (parent_of leaf.0) (near_by marks homes leaf.0 leaf.1)) ≤ 56

-- what is asked of a rank, so that what comes of its leaves can be made and told
pub record CanMake (shape : Shape) (local : Proxying) : Type 0 where
  pub rising : AllPairs IsBefore local.marking.marks.leaves
  pub heard : AllPairs ComesBefore local.homes
  pub leaves : All (IsMakable shape local.marking.rank local.marking.marks (own_homes local ++ local.homes)) (linked_leaves local)

-- proxies by rising id
abbrev pub ProxiesRise : List Proxy → Type 0
ProxiesRise proxies = AllPairs (λ (a b : Proxy). IsBefore a.id b.id) proxies

-- what is asked of outer links, so that the proxy of their parent, if it is among some, can gather them
pub record IsGatherable (outer : Outer) (proxies : List Proxy) : Type 0 where
  pub few : All (λ (proxy : Proxy). outer.0 ≡ proxy.id → length (joined outer.1 proxy.links) ≤ 56) proxies
  pub agree : All (λ (proxy : Proxy). outer.0 ≡ proxy.id → AgreeOnOwners outer.1 proxy.links) proxies

-- and of several, that are gathered one after another
pub record CanGather (outers : List Outer) (proxies : List Proxy) : Type 0 where
  pub rising : ProxiesRise proxies
  pub each : (before later : List Outer) (outer : Outer) → outers ≡ before ++ outer ∷ later → IsGatherable outer (map (all_gathered before) proxies)
