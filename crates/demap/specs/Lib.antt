pub mod Demap
pub mod Shared
pub mod Decide
pub mod Laws
