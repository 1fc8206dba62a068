-- The two rounds of a regrid in which ranks make proxies and complete their links.
pub mod Plays
pub mod Making
pub mod Views
pub mod Calls
