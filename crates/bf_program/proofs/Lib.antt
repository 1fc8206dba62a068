pub mod LockstepLemmas
pub mod RestoreLemmas
pub mod SeatLemmas
pub mod ReadLemmas
