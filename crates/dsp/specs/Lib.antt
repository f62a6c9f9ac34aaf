pub mod Arithmetic
pub mod Flat
