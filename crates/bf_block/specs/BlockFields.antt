-- How a block is stored.
use Rattle.bf_block.specs.declared.block.Block.TheInside.{Inside}
use Rattle.bf_block.specs.Block.{BlockValue}
use Rattle.bf_block.specs.Setup.{case_of}

-- the block that its fields hold
abbrev pub block_in : Inside → BlockValue
block_in b = record { case = case_of b.setup; point = b.point; id = b.id; cells = b.cells }
