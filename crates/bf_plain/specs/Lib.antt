-- What the plain run keeps on its way through a map.
pub mod Atlas
pub mod Beginning
pub mod Rebuild
pub mod Marks
pub mod Octets
pub mod Survey
pub mod Step
pub mod Runs
