-- A row of beads on ranks: the row, its rounds, and the laws of the program.
pub mod Row
pub mod Stages
pub mod Locals
pub mod Rounds
pub mod Peers
pub mod Meanings
pub mod Goods
pub mod RowLaws
pub mod NeighborLaws
pub mod SpanLaws
pub mod RoundLaws
pub mod BeadsLaws
