pub mod Pairs
pub mod Angles
pub mod Spreading
