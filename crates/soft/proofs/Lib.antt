pub mod Signs
pub mod Costs
pub mod Prefix
pub mod Laws
