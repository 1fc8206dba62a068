-- Links between leaves, and the leaves that touch one of a balanced tiling.
pub mod Links
pub mod Touching
pub mod Roots
