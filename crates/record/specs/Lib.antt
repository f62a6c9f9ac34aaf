pub mod Refusals
pub mod Table
pub mod Examples
pub mod Answer
pub mod Judging
pub mod Independence
