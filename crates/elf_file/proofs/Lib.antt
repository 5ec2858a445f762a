mod Kept
pub mod Rows
