pub mod Work
pub mod Estimating
pub mod Modelling
