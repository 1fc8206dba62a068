-- A rank: where it stands in the lockstep, and its turns.
pub mod Ranks
pub mod Steps
