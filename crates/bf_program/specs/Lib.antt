-- Programs of ranks in rounds: epochs, meanings, the lockstep, and the laws that a program keeps.
pub mod Epochs
pub mod Meanings
pub mod Lockstep
pub mod Points
pub mod Restores
pub mod Laws
