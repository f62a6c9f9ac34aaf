pub mod Soft
pub mod Tree
pub mod Flat
pub mod Laws
