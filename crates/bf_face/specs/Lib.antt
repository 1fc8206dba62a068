-- The faces of a box.
pub mod Face
