pub mod Answer
pub mod Filter
pub mod Fde
pub mod Sic
pub mod Laws
