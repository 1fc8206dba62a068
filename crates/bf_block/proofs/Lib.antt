pub mod Steps
pub mod BlockLemmas
pub mod Walls
pub mod Wishing
pub mod EighthLemmas
pub mod JoinedLemmas
pub mod MergedLemmas
