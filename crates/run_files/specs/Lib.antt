pub mod Fits
pub mod Hints
pub mod Laws
pub mod Limits
pub mod Reading
pub mod Refusal
pub mod Spelling
pub mod Values
