pub mod Record
pub mod Sizes
pub mod Layout
pub mod Shape
pub mod Bytes
