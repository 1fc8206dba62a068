pub mod Appending
pub mod Taking
pub mod PageLemmas
pub mod SheetLemmas
