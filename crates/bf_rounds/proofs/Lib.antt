pub mod VectorLemmas
pub mod CourseLemmas
pub mod LeadLemmas
pub mod PointLemmas
pub mod StartLemmas
