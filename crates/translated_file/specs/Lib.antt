pub mod Comparing
pub mod Laws
pub mod Limits
pub mod Reading
pub mod Refusal
pub mod Spelling
pub mod Values
pub mod Whole
