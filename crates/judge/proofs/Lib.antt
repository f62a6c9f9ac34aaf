pub mod Placed
pub mod Own
pub mod Laws
pub mod Finding
pub mod Rows
pub mod Estimated
mod Equalizing
pub mod Onward
mod Held
