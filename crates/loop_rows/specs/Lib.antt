pub mod Copying
pub mod Measuring
