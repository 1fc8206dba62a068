-- Links: the leaves that touch a leaf, each with the rank that owns it.
use Rattle.std.specs.Prelude.{◌≤◌, ◌≡◌, ℕ, ◌<◌, ◌==◌, Bool, List, Option, Some, None, AllPairs, Contains, filter, map, find, length, option_map, slice_index_or, if◌then◌else◌}
use Rattle.std.specs.List.{list_any, range_with_len}
use Rattle.bf_id.specs.declared.shape.Shape.{Shape}
use Rattle.bf_id.specs.Id.{BlockId, Touch, id_eq, touches}
use Rattle.bf_id.specs.Walk.{IsBefore}
use Rattle.bf_links.specs.declared.link.Link.{Link}

-- so many leaves touch one at most
abbrev pub link_limit : ℕ
link_limit = 56

abbrev pub ComesBefore : Link → Link → Type 0
ComesBefore a b = IsBefore a.id b.id

-- links by rising id, and not too many
pub record AreLinks (links : List Link) : Type 0 where
  pub rising : AllPairs ComesBefore links
  pub few : length links ≤ link_limit

-- those of some leaves that touch one
abbrev pub touching : Shape → BlockId → List Link → List Link
touching shape i leaves = filter (λ (leaf : Link). touches shape i leaf.id) leaves

-- a leaf with its owner
abbrev pub link_to : (owner : BlockId → ℕ) → BlockId → Link
link_to owner i = record { id = i; owner = owner i }

-- the links of a leaf: exactly the leaves that touch it, in their order
abbrev pub links_of : Shape → List BlockId → (owner : BlockId → ℕ) → BlockId → List Link
links_of shape ids owner i = map (link_to owner) (filter (touches shape i) ids)

-- the link is to one of the leaves that touches this one, and names its owner
pub record IsLinkOf (shape : Shape) (ids : List BlockId) (owner : BlockId → ℕ) (i : BlockId) (link : Link) : Type 0 where
  pub leaf : Contains ids link.id
  pub touch : Touch shape i link.id
  pub owned : link.owner ≡ owner link.id

-- the owner of a leaf, or none where no link is to it
abbrev pub owner_of : List Link → BlockId → Option ℕ
owner_of links i = option_map (λ (link : Link). link.owner) (find (λ (link : Link). id_eq link.id i) links)

-- whether a rank owns one of the leaves
abbrev pub is_owner : List Link → ℕ → Bool
is_owner links rank = list_any (λ (link : Link). link.owner == rank) links

-- the ranks below 32 that do
unfoldable pub owners_of : List Link → List ℕ
owners_of links = filter (is_owner links) (range_with_len 0 32)

-- links, and the ranks below 32 that own one of their leaves
pub record AreOwnedLinks (links : List Link) (owners : List ℕ) : Type 0 where
  pub are : AreLinks links
  pub told : owners ≡ owners_of links

-- the links, where one leaf has another owner
abbrev pub with_owner : BlockId → ℕ → List Link → List Link
with_owner i owner links = map (λ (link : Link). if id_eq link.id i then record link { owner = owner } else link) links

-- a link that names another owner in place of each
abbrev pub remapped : (ℕ → ℕ) → Link → Link
remapped heir link = record link { owner = heir link.owner }

-- the link to a leaf stands here
pub record IsPlaceOf (links : List Link) (i : BlockId) (place : ℕ) : Type 0 where
  pub within : place < length links
  pub found : (d : Link) → (slice_index_or links place d).id ≡ i
  pub owner : (d : Link) → owner_of links i ≡ Some (slice_index_or links place d).owner

-- no link is to the leaf
pub record IsNoPlaceOf (links : List Link) (i : BlockId) : Type 0 where
  pub none : (k : ℕ) (d : Link) → k < length links → (slice_index_or links k d).id ≡ i → ⊥
  pub owner : owner_of links i ≡ None
