pub mod Pilots
pub mod Find
pub mod Load
pub mod Fit
pub mod Facts
pub mod Work
pub mod Laws
