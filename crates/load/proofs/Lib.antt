pub mod Counted
pub mod Starts
pub mod Own
pub mod Sources
pub mod Storing
mod Turns
