pub mod Parts
pub mod Whole
pub mod Leading
pub mod Resuming
pub mod Passing
pub mod Played
