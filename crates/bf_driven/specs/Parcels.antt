-- The blocks of parcels, and blocks in order.
use Rattle.std.specs.Prelude.{ℕ, List}
use Rattle.std.specs.List.{flat_map}
use Rattle.std.specs.List.Sorted.{IsSortedByKey}
use Rattle.bf_id.specs.Id.{id_cmp}
use Rattle.bf_block.specs.Block.{BlockValue}
use Rattle.bf_msg.specs.declared.linked_block.LinkedBlock.{LinkedBlock}
use Rattle.bf_forest.specs.Leaves.{bare_blocks}

-- the blocks of all parcels, each of which names the rank that gave it
abbrev pub blocks_of : List (ℕ × List LinkedBlock) → List BlockValue
blocks_of parcels = flat_map (λ parcel. bare_blocks parcel.1) parcels

-- blocks stand by rising id
abbrev pub RiseById : List BlockValue → Type 0
RiseById blocks = IsSortedByKey (λ (b : BlockValue). b.id) id_cmp blocks
