-- What the functions of `bits` are to compute.
pub mod Mix
pub mod Step
pub mod Slots
pub mod Examples
