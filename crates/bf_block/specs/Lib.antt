-- Cases that can run and their setups, then blocks and eighths.
pub mod Runs
pub mod Setup
pub mod Block
pub mod BlockFields
pub mod Eighth
pub mod EighthFields
