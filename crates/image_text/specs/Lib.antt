pub mod Instructions
pub mod Lines
pub mod Pieces
pub mod Text
