-- Blocks with their links, and what a message has.
pub mod LinkedBlocks
pub mod Messages
