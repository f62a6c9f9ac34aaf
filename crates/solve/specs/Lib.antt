pub mod Solve
pub mod Rows
