pub mod Constants
pub mod Patterns
pub mod Layouts
pub mod Sizes
pub mod Maps
pub mod Known
pub mod Carriers
pub mod Fit
