pub mod Twelve
