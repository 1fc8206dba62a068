-- The state machine of a run: its states, what is legal, what comes next, and its laws.
pub mod Stages
pub mod Places
pub mod Rolls
pub mod States
pub mod Views
pub mod Legal
pub mod Next
pub mod Journals
pub mod Orders
pub mod Laws
