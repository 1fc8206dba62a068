-- When blocks are the leaves of a map.
use Rattle.std.specs.Prelude.{◌≡◌, ℕ, List, Some, All, map}
use Rattle.std.specs.List.{count_by}
use Rattle.bf_id.specs.Id.{BlockId, id_eq}
use Rattle.bf_case.specs.Map.{Leaf, cells_at}
use Rattle.bf_block.specs.Block.{BlockValue}
use Rattle.bf_msg.specs.declared.linked_block.LinkedBlock.{LinkedBlock}

-- linked blocks without their links
abbrev pub bare_blocks : List LinkedBlock → List BlockValue
bare_blocks blocks = map (λ (b : LinkedBlock). b.block) blocks

-- how often a leaf's id is among blocks
abbrev pub times_among : List BlockValue → BlockId → ℕ
times_among blocks i = count_by (λ b. id_eq b.id i) blocks

-- each block is a leaf of the map, with its cells, and each leaf is there once
pub record AreLeaves (leaves : List Leaf) (blocks : List BlockValue) : Type 0 where
  pub cells : All (λ b. cells_at leaves b.id ≡ Some b.cells) blocks
  pub once : All (λ leaf. times_among blocks leaf.0 ≡ 1) leaves
