-- Blocks by their ids: boxes, neighbours, tilings, order and text.
pub mod Cube
pub mod Axis
pub mod Shape
pub mod Meeting
pub mod Id
pub mod IdFields
pub mod Face
pub mod Sharing
pub mod Neighbours
pub mod Tiling
pub mod Walk
pub mod IdText
pub mod TextBuffer
pub mod TextParts
