pub mod ChosenLemmas
pub mod SearchLemmas
pub mod KnownLemmas
pub mod RefinedLemmas
pub mod MergingLemmas
pub mod TargetLemmas
