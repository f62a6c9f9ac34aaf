-- Laws of the definitions, for the proofs here and in the crates above.
pub mod Divisors
pub mod Rounding
pub mod Search
pub mod Inverse
pub mod Laws
pub mod Worked
