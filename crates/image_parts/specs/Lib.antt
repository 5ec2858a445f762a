pub mod Values
pub mod Refusal
pub mod Parts
pub mod Segments
pub mod Sections
pub mod Program
pub mod Loads
