pub mod Written
pub mod Front
pub mod Laws
pub mod Ways
pub mod Sums
pub mod Loops
