pub mod Joined
pub mod Bits
pub mod Feeding
