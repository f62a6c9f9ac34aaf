-- Laws of the definitions, for the proofs here and in the crates above.
pub mod Xor
pub mod Division
pub mod Digits
pub mod Register
pub mod Masks
pub mod Information
pub mod Framing
pub mod Reading
pub mod RoundTrip
