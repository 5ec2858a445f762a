pub mod Instructions
pub mod Words
pub mod Plans
pub mod Promises
