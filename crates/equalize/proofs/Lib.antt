pub mod Decimals
pub mod Stages
pub mod Loops
pub mod FdeLaws
pub mod FdeStages
pub mod SicLaws
pub mod SicStages
