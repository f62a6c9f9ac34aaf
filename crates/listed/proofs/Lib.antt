-- Laws of the definitions, for the proofs here and in the crates above.
mod Sorted
mod Starts
pub mod ByAll
mod Asking
mod Filled
