-- The world: legal journals, queues, and the lockstep's messages and parcels.
pub mod Journals
pub mod Queues
pub mod Course
pub mod Runs
pub mod Messages
pub mod Worlds
pub mod Results
pub mod Ends
pub mod Weights
pub mod Settled
pub mod Losses
pub mod Snapshots
