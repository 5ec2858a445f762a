pub mod Fetching
pub mod Reading
pub mod Decoding
