-- Laws of the definitions, for the proofs here and in the crates above.
pub mod Offsets
pub mod Sorting
pub mod Cut
pub mod Places
pub mod Gathered
pub mod Exchange
pub mod Terms
pub mod Selected
pub mod Found
pub mod Walks
pub mod Independent
