pub mod Bits
pub mod Poly
pub mod Check
pub mod Masks
pub mod Fields
pub mod Frame
pub mod RoundTrip
