pub mod Cells
pub mod Judge
pub mod Fit
pub mod Upto
pub mod Symbol
pub mod Fitted
