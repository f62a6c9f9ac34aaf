pub mod Below
pub mod Counts
pub mod Angles
pub mod Constants
pub mod Same
pub mod Loops
pub mod Laws
pub mod Scaling
