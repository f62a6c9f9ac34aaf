pub mod Loop
pub mod Tab
pub mod Cat
pub mod Fill
