-- The plays of the two rounds.
use Rattle.std.specs.Prelude.{ℕ, ◌==◌, ◌&&◌, not, Bool, true, false, if◌then◌else◌, List, [], ◌++◌, filter, flat_map, map, unwrap_or}
use Rattle.std.specs.List.{fold, zip}
use Rattle.bf_id.specs.declared.shape.Shape.{Shape}
use Rattle.bf_id.specs.Id.{BlockId, child_of, id_eq, octant_of, parent_of}
use Rattle.bf_case.specs.Refinement.{is_among}
use Rattle.bf_case.specs.declared.target.Target.{Target}
use Rattle.bf_case.specs.declared.target.Target.TheVariants.{Keep, Refine, Merge}
use Rattle.bf_links.specs.Links.{link_to, owner_of, touching}
use Rattle.bf_links.specs.declared.link.Link.{Link}
use Rattle.bf_marks.specs.Marks.{target_by}
use Rattle.bf_mark_rounds.specs.Plays.{marking_peers}
use Rattle.bf_mark_rounds.specs.Shares.{Marking}
use Rattle.bf_proxy.specs.Homes.{goes_into}
use Rattle.bf_proxy.specs.Joined.{joined}
use Rattle.bf_proxy.specs.Proxies.{gathered, proxies_of, sources_by}
use Rattle.bf_proxy.specs.declared.proxy.Proxy.{Proxy}
use Rattle.bf_rounds.specs.Gathering.{Play}

-- what a rank has to do with: its leaves with their links and marks; of each merging leaf of which it heard, the rank that has the first of the
-- octet; and the proxies that it made
pub record Proxying : Type 0 where
  pub marking : Marking
  pub homes : List Link
  pub proxies : List Proxy

-- a leaf with its links, and a merging leaf's parent with the leaf's outer links
abbrev pub LinkedLeaf : Type 0
LinkedLeaf = BlockId × List Link

abbrev pub Outer : Type 0
Outer = BlockId × List Link

abbrev pub is_merge : Target → Bool
is_merge Keep = false
is_merge Refine = false
is_merge Merge = true

-- what becomes of a leaf that is a rank's own, or linked with one of these
abbrev pub known_target : Proxying → BlockId → Target
known_target local i = target_by local.marking.marks i

-- the own leaves, each with its links, and those of them that merge
abbrev pub linked_leaves : Proxying → List LinkedLeaf
linked_leaves local = zip local.marking.marks.leaves local.marking.links

abbrev pub merging_leaves : Proxying → List LinkedLeaf
merging_leaves local = filter (λ (leaf : LinkedLeaf). is_merge (known_target local leaf.0)) (linked_leaves local)

-- who has a sibling of an own leaf: who the links say, or for the leaf itself the rank
abbrev pub sibling_owner : Proxying → (links : List Link) → BlockId → ℕ
sibling_owner local links sibling = unwrap_or (owner_of links sibling) local.marking.rank

-- who has the first of a merging leaf's octet, where the octet's proxy is made, and that of each own one
abbrev pub octet_home : Proxying → BlockId → (links : List Link) → ℕ
octet_home local i links = sibling_owner local links (child_of (parent_of i) 0)

abbrev pub own_homes : Proxying → List Link
own_homes local = map (λ (leaf : LinkedLeaf). link_to (λ i. octet_home local i leaf.1) leaf.0) (merging_leaves local)

-- where that is made into which a linked leaf goes: at the home of its octet, if it has one, and else at its owner
abbrev pub linked_home : Proxying → Link → ℕ
linked_home local link = unwrap_or (owner_of (own_homes local ++ local.homes) link.id) link.owner

-- links to what a linked leaf goes into
abbrev pub linked_near : Proxying → Link → List Link
linked_near local link = map (link_to (λ q. linked_home local link)) (goes_into (known_target local link.id) link.id)

-- links to the proxies that come of the leaves linked with an own one, but for those that come of itself
abbrev pub near_known : Proxying → BlockId → (links : List Link) → List Link
near_known local i links = joined (filter (λ (link : Link). not (is_among (goes_into (known_target local i) i) link.id)) (flat_map (linked_near local) links)) []

-- the proxies that come of an own leaf
abbrev pub made_by : Shape → Proxying → BlockId → (links : List Link) → List Proxy
made_by shape local i links =
    proxies_of shape i (known_target local i) (map (link_to (sibling_owner local links)) (sources_by (known_target local i) i)) (near_known local i links)

abbrev pub with_made : Shape → Proxying → Proxying
with_made shape local = record local { proxies = flat_map (λ (leaf : LinkedLeaf). made_by shape local leaf.0 leaf.1) (linked_leaves local) }

-- the round of homes, at whose end proxies are made
abbrev pub homes_play : Shape → Play Proxying (List Link)
homes_play shape = record {
  peers = λ members local. marking_peers members local.marking;
  tell = λ local to. own_homes local;
  hear = λ local peer homes. record local { homes = joined homes local.homes };
  finish = with_made shape;
}

-- whether the outer links of an own merging leaf are for a rank: that has the first of its octet, which is another leaf
abbrev pub is_told_to : Proxying → (to : ℕ) → LinkedLeaf → Bool
is_told_to local to leaf = not (octant_of leaf.0 == 0) && octet_home local leaf.0 leaf.1 == to

abbrev pub outer_by : Shape → Proxying → LinkedLeaf → Outer
outer_by shape local leaf = (parent_of leaf.0, touching shape (parent_of leaf.0) (near_known local leaf.0 leaf.1))

abbrev pub outer_told : Shape → Proxying → (to : ℕ) → List Outer
outer_told shape local to = map (outer_by shape local) (filter (is_told_to local to) (merging_leaves local))

-- a proxy gathers outer links that are for its octet, and several one after another
abbrev pub gathered_at : Proxy → Outer → Proxy
gathered_at proxy outer = if id_eq outer.0 proxy.id then gathered outer.1 proxy else proxy

abbrev pub all_gathered : List Outer → Proxy → Proxy
all_gathered outers proxy = fold gathered_at proxy outers

abbrev pub with_outer : List Outer → Proxying → Proxying
with_outer outers local = record local { proxies = map (all_gathered outers) local.proxies }

-- the round of siblings, at whose end a rank gathers what it would tell itself
abbrev pub siblings_play : Shape → Play Proxying (List Outer)
siblings_play shape = record {
  peers = λ members local. marking_peers members local.marking;
  tell = outer_told shape;
  hear = λ local peer outers. with_outer outers local;
  finish = λ local. with_outer (outer_told shape local local.marking.rank) local;
}

-- where that is made into which an own leaf goes: at the home of its octet where it merges, and else at the rank
abbrev pub own_home : Proxying → LinkedLeaf → ℕ
own_home local leaf = if is_merge (known_target local leaf.0) then octet_home local leaf.0 leaf.1 else local.marking.rank

-- links to what an own leaf goes into
abbrev pub leaf_targets : Proxying → LinkedLeaf → List Link
leaf_targets local leaf = map (link_to (λ q. own_home local leaf)) (goes_into (known_target local leaf.0) leaf.0)

-- by rising id the proxies into which own leaves go, each once, with the rank at which it is made
abbrev pub own_targets : Proxying → List (BlockId × ℕ)
own_targets local = map (λ (link : Link). (link.id, link.owner)) (joined (flat_map (leaf_targets local) (linked_leaves local)) [])
