-- The cells of a block, the values round them, and the stencil.
pub mod Grid
pub mod Shell
pub mod Squares
pub mod ShellFields
pub mod Kernel
pub mod Rows
pub mod Octant
pub mod Means
pub mod Levels
