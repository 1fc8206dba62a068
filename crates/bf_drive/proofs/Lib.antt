pub mod TurnsLemmas
pub mod StayLemmas
pub mod TookLemmas
pub mod LighterLemmas
pub mod AloneLemmas
pub mod OpeningLemmas
pub mod LeadLemmas
