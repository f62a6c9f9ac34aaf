-- Laws of the definitions, for the proofs here and in the crates above.
pub mod Decimals
pub mod Strides
pub mod Models
pub mod Trials
pub mod Ranges
pub mod First
