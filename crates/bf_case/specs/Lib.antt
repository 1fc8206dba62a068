-- Cases and the model: maps, samples, the stencil, regrids, and how each is laid out in cells.
pub mod Case
pub mod CaseText
pub mod Map
pub mod Balanced
pub mod Sample
pub mod Stencil
pub mod Wishes
pub mod Refinement
pub mod Merging
pub mod Regrid
pub mod Model
pub mod MapText
pub mod Filling
pub mod Around
pub mod Beside
pub mod Halves
pub mod Rows
