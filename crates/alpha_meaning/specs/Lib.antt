pub mod State
pub mod Result
pub mod ByteLaws
pub mod Memory
pub mod Act
pub mod Pieces
pub mod Loops
