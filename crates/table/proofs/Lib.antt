-- Laws of the definitions, for the proofs here and in the crates above.
pub mod Bounded
pub mod Passing
pub mod Exact
pub mod Accepting
pub mod AtEdges
