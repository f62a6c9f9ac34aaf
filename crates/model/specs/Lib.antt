pub mod Constants
pub mod Values
pub mod Facts
pub mod Score
pub mod Select
pub mod Laws
