-- Laws of the definitions, for the proofs here and in the crates above.
pub mod Reading
pub mod Rows
pub mod Shaped
pub mod Digits
pub mod Laid
pub mod RoundTrip
