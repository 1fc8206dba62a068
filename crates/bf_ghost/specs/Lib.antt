-- Strips, shells filled by them, and what ranks tell each other in a step.
pub mod Strips
pub mod Filling
pub mod Telling
pub mod Surrounding
