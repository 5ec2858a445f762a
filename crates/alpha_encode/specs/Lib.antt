pub mod Calls
pub mod Registers
pub mod Table
pub mod Rows
pub mod Words
pub mod Halves
pub mod NoOperation
