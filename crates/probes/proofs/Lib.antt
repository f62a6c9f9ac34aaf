pub mod Loadings
pub mod Withins
