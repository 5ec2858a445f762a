pub mod Tiles
mod Appended
mod Asked
mod Blocks
mod Lines
mod Spelled
pub mod Rows
