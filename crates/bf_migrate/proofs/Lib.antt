pub mod SearchLemmas
pub mod TargetLemmas
pub mod GivingLemmas
pub mod OrderLemmas
pub mod LotLemmas
pub mod BoxLemmas
