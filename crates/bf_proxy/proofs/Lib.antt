pub mod JoinLemmas
pub mod MakeLemmas
pub mod HomeLemmas
pub mod LawLemmas
