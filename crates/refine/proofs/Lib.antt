mod EachSymbol
mod Sliced
mod Counted
pub mod Ready
mod Joined
pub mod Blanked
pub mod Ordered
pub mod OwnPriors
pub mod Elsewhere
pub mod WithoutOwn
pub mod Independence
