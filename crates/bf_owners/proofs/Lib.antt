pub mod SumLemmas
pub mod LedgerLemmas
pub mod TotalLemmas
pub mod KeptLemmas
pub mod OwnerLemmas
