pub mod Decisions
pub mod Equalizations
