pub mod Refine
pub mod Received
pub mod Plan
pub mod Front
pub mod Back
pub mod Whole
pub mod Independence
