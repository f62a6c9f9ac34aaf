pub mod Table
pub mod Constellation
pub mod Power
pub mod Laws
