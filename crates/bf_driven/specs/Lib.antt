-- What a run of the forest leaves.
pub mod Parcels
pub mod Held
pub mod Losses
pub mod Heirs
