pub mod Pushed
pub mod Decoded
pub mod Classes
pub mod PageCount
pub mod Work
pub mod Instructions
