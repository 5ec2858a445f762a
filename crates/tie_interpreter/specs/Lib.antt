pub mod Found
pub mod Rest
pub mod Whole
