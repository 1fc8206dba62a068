-- Members, buddies and lost homes.
pub mod Members
pub mod Buddy
pub mod Losses
pub mod Bits
