pub mod SlotLemmas
pub mod BoundLemmas
pub mod LinkLemmas
pub mod SearchLemmas
pub mod RootLemmas
