mod Counts
mod Ranges
mod Appended
pub mod Rows
