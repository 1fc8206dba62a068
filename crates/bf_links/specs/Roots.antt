-- Links between the roots, where the leaves are the roots.
use Rattle.std.specs.Prelude.{ℕ, List, map, slice_index}
use Rattle.std.specs.List.{range_with_len}
use Rattle.bf_id.specs.declared.shape.Shape.{Shape}
use Rattle.bf_id.specs.Id.{BlockId, root_id}
use Rattle.bf_links.specs.Links.{links_of}
use Rattle.bf_links.specs.declared.link.Link.{Link}

-- the owner of a root, by the owners of all roots in their order
abbrev pub root_owner : List ℕ → BlockId → ℕ
root_owner owners i = slice_index owners i.root

-- the links of a root to those of the first so many roots that touch it
unfoldable pub links_below : Shape → (owners : List ℕ) → (root count : ℕ) → List Link
links_below shape owners root count = links_of shape (map root_id (range_with_len 0 count)) (root_owner owners) (root_id root)
