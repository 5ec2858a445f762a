pub mod Walks
pub mod Lines
pub mod Rows
pub mod Spelled
pub mod Parsed
pub mod Getters
pub mod Readings
pub mod Worked
