-- Programs in stages: snapshots, moves, stages, and the plan of an epoch.
pub mod Snapshots
pub mod Moves
pub mod Stages
pub mod Plans
