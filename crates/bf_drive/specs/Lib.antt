-- Runs by turns, and why each ends.
pub mod Drives
pub mod Lighter
