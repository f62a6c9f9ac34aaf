pub mod Constants
pub mod Domain
pub mod FixedPoint
pub mod Exp
pub mod Ln
pub mod Circular
pub mod Gain
pub mod Laws
