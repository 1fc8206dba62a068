pub mod BitLemmas
pub mod BuddyLemmas
pub mod LossLemmas
pub mod LawLemmas
pub mod MemberLemmas
