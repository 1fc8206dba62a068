-- What an input spells: a case, or the first line at fault.
pub mod Codes
pub mod Lines
pub mod Forms
pub mod Entries
pub mod Faults
pub mod Reading
pub mod Heads
pub mod Drafts
pub mod HeadText
