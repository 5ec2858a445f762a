pub mod Bodies
pub mod Begun
