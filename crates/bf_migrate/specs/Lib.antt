-- What blocks give in a regrid, to whom, and what blocks are made of it.
pub mod Giving
pub mod Targets
pub mod Lots
pub mod Boxes
