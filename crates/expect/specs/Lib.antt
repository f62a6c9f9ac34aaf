pub mod Expect
pub mod Contract
