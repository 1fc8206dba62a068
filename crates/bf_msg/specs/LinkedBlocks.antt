-- Blocks with their links, as items that ranks keep in parts.
use Rattle.std.specs.Prelude.{ℕ, IsTrue, List, All, map}
use Rattle.std.specs.Ordering.{is_lt}
use Rattle.bf_buddy.specs.Members.{is_member}
use Rattle.bf_id.specs.Id.{id_cmp}
use Rattle.bf_links.specs.declared.link.Link.{Link}
use Rattle.bf_links.specs.Links.{remapped}
use Rattle.bf_parts.specs.Leaves.{Kind}
use Rattle.bf_msg.specs.declared.linked_block.LinkedBlock.{LinkedBlock}

-- they stand in the order of their ids; where owners are replaced, they are so in the links
abbrev pub linked_kind : Kind LinkedBlock
linked_kind = record {
  first = λ a b. is_lt (id_cmp a.block.id b.block.id);
  remap = λ f b. record b { links = map (remapped f) b.links };
}

-- each owner in a block's links is among these
abbrev pub IsOwnedAmong : List ℕ → LinkedBlock → Type 0
IsOwnedAmong homes b = All (λ (link : Link). IsTrue (is_member homes link.owner)) b.links
