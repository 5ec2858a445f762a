pub mod Values
pub mod Arithmetic
pub mod Shifts
pub mod Quad
pub mod Extensions
