pub mod FlowLemmas
pub mod TurnLemmas
