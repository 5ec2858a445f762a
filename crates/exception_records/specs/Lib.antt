pub mod Codes
pub mod Shown
pub mod Points
pub mod Blocks
