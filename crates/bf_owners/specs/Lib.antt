-- Owners of the pieces of the domain, as the journal tells them.
pub mod Owners
