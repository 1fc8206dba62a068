-- The round of a regrid in which blocks go to where their proxies are.
pub mod Holdings
pub mod Plays
pub mod Shares
pub mod Boxes
pub mod Views
pub mod Calls
