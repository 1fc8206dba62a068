-- What ranks have before the two rounds, between them and after them.
use Rattle.std.specs.Prelude.{◌≡◌, ℕ, ◌==◌, ◌&&◌, not, List, [], Contains, filter, flat_map, map}
use Rattle.bf_id.specs.declared.shape.Shape.{Shape}
use Rattle.bf_id.specs.Id.{BlockId, child_of, octant_of, parent_of}
use Rattle.bf_case.specs.Regrid.{regridded_ids, target_of}
use Rattle.bf_case.specs.Wishes.{Wishes}
use Rattle.bf_links.specs.Links.{link_to, links_of}
use Rattle.bf_links.specs.declared.link.Link.{Link}
use Rattle.bf_mark_rounds.specs.Neighbors.{is_own, is_neighbors}
use Rattle.bf_mark_rounds.specs.Shares.{found_below, marking_at, Marking}
use Rattle.bf_proxy.specs.Homes.{home_of, made_at, origin_of, outer_links, ShareUnit}
use Rattle.bf_proxy.specs.Joined.{joined}
use Rattle.bf_proxy.specs.Proxies.{sources_by}
use Rattle.bf_proxy.specs.declared.proxy.Proxy.{Proxy}
use Rattle.bf_rounds.specs.Courses.{Course}
use Rattle.bf_rounds.specs.Gathering.{gathering}
use Rattle.bf_proxy_rounds.specs.Plays.{homes_play, is_merge, siblings_play, with_outer, Outer, Proxying}

-- who has the first of a leaf's octet
abbrev pub first_owner : (owner : BlockId → ℕ) → BlockId → ℕ
first_owner owner i = owner (child_of (parent_of i) 0)

module _ (shape : Shape) (ids : List BlockId) (w : Wishes) (owner : BlockId → ℕ) where
  -- a rank that has its marks: it knows what becomes of its leaves and of those that touch them
  abbrev pub settled_marking : (rank : ℕ) → Marking
  settled_marking = marking_at shape ids w owner (found_below shape ids w 0 0) (found_below shape ids w 0 0)

  -- with what it has heard and made
  abbrev pub proxying_of : (homes : List Link) → (proxies : List Proxy) → (rank : ℕ) → Proxying
  proxying_of homes proxies rank = record { marking = settled_marking rank; homes = homes; proxies = proxies }

  -- of some leaves those that merge, each with the rank that has the first of its octet
  abbrev pub homes_among : List BlockId → List Link
  homes_among leaves = map (link_to (first_owner owner)) (filter (λ i. is_merge (target_of shape ids w i)) leaves)

  -- what a rank hears of its neighbours' leaves
  abbrev pub heard_homes : (rank : ℕ) → List Link
  heard_homes rank = homes_among (filter (is_neighbors shape ids owner rank) ids)

  -- the proxies that come of a rank's leaves, as they are made
  abbrev pub made_proxies : (rank : ℕ) → List Proxy
  made_proxies rank = flat_map (made_at shape ids (target_of shape ids w) owner) (filter (is_own owner rank) ids)

  -- a new leaf's proxy: of which leaves it comes, and links to all new leaves that touch it, each with the rank at which its proxy is
  abbrev pub linked_proxy : BlockId → Proxy
  linked_proxy q = record {
    id = q;
    origin = target_of shape ids w (origin_of ids q);
    sources = map (link_to owner) (sources_by (target_of shape ids w (origin_of ids q)) (origin_of ids q));
    links = links_of shape (regridded_ids shape ids w) (home_of ids owner) q;
  }

  -- those of the new leaves that come of a rank's
  abbrev pub linked_proxies : (rank : ℕ) → List Proxy
  linked_proxies rank = map linked_proxy (filter (λ q. home_of ids owner q == rank) (regridded_ids shape ids w))

  -- a rank before the round of homes, after it, and after that of siblings
  abbrev pub unmade_proxying : (rank : ℕ) → Proxying
  unmade_proxying rank = proxying_of [] [] rank

  abbrev pub made_proxying : (rank : ℕ) → Proxying
  made_proxying rank = proxying_of (heard_homes rank) (made_proxies rank) rank

  abbrev pub linked_proxying : (rank : ℕ) → Proxying
  linked_proxying rank = proxying_of (heard_homes rank) (linked_proxies rank) rank

  -- the leaves of a rank whose outer links another needs, or that itself: they merge, and it has the first of their octets, which are other leaves
  abbrev pub outer_leaves : (from to : ℕ) → List BlockId
  outer_leaves from to =
      filter (λ i. is_own owner from i && (is_merge (target_of shape ids w i) && (not (octant_of i == 0) && first_owner owner i == to))) ids

  -- a leaf's outer links, for its parent
  abbrev pub outer_at : BlockId → Outer
  outer_at i = (parent_of i, outer_links shape ids (target_of shape ids w) owner i)

  -- the courses of the rounds
  abbrev pub homes_course : (members : List ℕ) → Course Proxying (List Link)
  homes_course members = gathering (homes_play shape) (λ peer msg. msg) (λ rank homes. proxying_of (joined homes []) [] rank) members unmade_proxying

  abbrev pub siblings_course : (members : List ℕ) → Course Proxying (List Outer)
  siblings_course members = gathering (siblings_play shape) (λ peer msg. msg) (λ rank outers. with_outer outers (made_proxying rank)) members made_proxying

-- a source of a new leaf: an old leaf with which it has a unit in common, with its owner
pub record IsSourceOf (shape : Shape) (ids : List BlockId) (owner : BlockId → ℕ) (q : BlockId) (source : Link) : Type 0 where
  pub leaf : Contains ids source.id
  pub shares : ShareUnit shape source.id q
  pub owned : source.owner ≡ owner source.id
