-- Laws of the definitions, for the proofs here and in the crates above.
pub mod Written
pub mod Accepted
pub mod OwnPriors
pub mod Exact
pub mod AsLists
pub mod Accepting
pub mod Examples
mod Cutting
mod Judged
mod Answering
