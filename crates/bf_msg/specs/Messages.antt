-- What a message has: how many whole blocks, and the sum of its values.
use Rattle.std.specs.Prelude.{ℕ, ◌%◌, ◌^◌, List, length, sum, Some, None}
use Rattle.std.specs.List.{sum_by}
use Rattle.bf_ghost.specs.Strips.{StripValue}
use Rattle.bf_program.specs.declared.measure.Measure.{Measure}
use Rattle.bf_msg.specs.declared.linked_block.LinkedBlock.{LinkedBlock}
use Rattle.bf_msg.specs.declared.message.Message.{Message}
use Rattle.bf_msg.specs.declared.message.Message.TheVariants.{Step, Snapshot, Force, May, Merges}

-- the sum of the cells of blocks, and of what strips tell
abbrev pub sum_of_blocks : List LinkedBlock → ℕ
sum_of_blocks blocks = sum_by (λ (b : LinkedBlock). sum b.block.cells.values) blocks

abbrev pub sum_of_strips : List StripValue → ℕ
sum_of_strips strips = sum_by (λ (s : StripValue). sum s.values) strips

-- how many blocks, modulo 2^32, and the sum of all values, modulo 2^64; a strip is no block, and an id neither a block nor a value
unfoldable pub measured : Message → Measure
measured (Step strips) = record { blocks = 0; sum = sum_of_strips strips % 2 ^ 64 }
measured (Snapshot (Some part)) = record { blocks = length part % 2 ^ 32; sum = sum_of_blocks part % 2 ^ 64 }
measured (Snapshot None) = record { blocks = 0; sum = 0 }
measured (Force ids) = record { blocks = 0; sum = 0 }
measured (May ids) = record { blocks = 0; sum = 0 }
measured (Merges ids) = record { blocks = 0; sum = 0 }
