-- The two sides of a rank's snapshots, and what changes them.
pub mod Buffers
pub mod Changes
