pub mod Steps
pub mod Crossing
pub mod Places
pub mod Splitting
pub mod Joining
pub mod Closing
mod Starting
