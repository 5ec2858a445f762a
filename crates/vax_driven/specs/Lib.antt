pub mod Threads
pub mod Driven
pub mod Laws
