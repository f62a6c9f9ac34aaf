pub mod Entry
pub mod Independence
pub mod Channels
