-- Laws of the definitions.
pub mod Formatted
pub mod Joined
pub mod Reading
pub mod Fours
pub mod Accepted
pub mod Printing
pub mod AsPrinted
pub mod Received
pub mod Written
