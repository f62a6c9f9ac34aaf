pub mod Sizes
pub mod Rows
pub mod Refusals
pub mod Table
pub mod Edges
