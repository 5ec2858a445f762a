pub mod Looping
pub mod Copying
pub mod Measuring
pub mod Shape
pub mod Meeting
