-- Laws of the definitions, for the proofs here and in the crates above.
pub mod Fixing
pub mod OwnPriors
pub mod WorkOnly
pub mod Places
