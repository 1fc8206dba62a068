-- Items in parts by owners, with copies in snapshots, and their laws.
pub mod Sides
pub mod Leaves
pub mod Views
pub mod Merges
pub mod Spreads
pub mod SnapshotRounds
pub mod Counts
pub mod SideLaws
pub mod MergeLaws
pub mod MoveLaws
pub mod ChangeLaws
pub mod RestoreLaws
pub mod StockLaws
pub mod LossLaws
pub mod CoverLaws
pub mod SnapshotLaws
pub mod ViewLaws
