-- Laws of the definitions.
pub mod Agreeing
