pub mod Rests
pub mod AtCells
pub mod Loaded
