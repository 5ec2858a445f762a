pub mod Moves
pub mod Bytes
pub mod Compares
pub mod Scans
pub mod Strings
pub mod Bodies
pub mod Begins
pub mod Whole
