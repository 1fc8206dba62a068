pub mod SharingLemmas
pub mod StripLemmas
pub mod FillLemmas
pub mod SurroundingLemmas
pub mod TellingLemmas
pub mod AllLeaves
