pub mod Registers
pub mod Constants
pub mod Words
pub mod Promises
pub mod Overflow
pub mod Bounds
