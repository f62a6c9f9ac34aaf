pub mod Flat
pub mod Spreader
