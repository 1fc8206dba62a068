-- Marks of leaves, and the rounds in which they are found.
pub mod Wishes
pub mod Flags
pub mod FlagFields
pub mod Marks
pub mod KnownFields
pub mod Rounds
pub mod OneOwner
