-- Shares of the marks of all leaves, and the rounds in which ranks tell each other of them.
pub mod Neighbors
pub mod Shares
pub mod Plays
pub mod FirstRound
pub mod Views
pub mod Sequences
pub mod AllRounds
pub mod Keeping
pub mod ChainRow
