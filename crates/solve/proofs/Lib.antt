pub mod Loops
pub mod Unseen
pub mod Constants
