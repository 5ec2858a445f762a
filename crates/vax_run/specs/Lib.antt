pub mod Answered
pub mod Memory
pub mod Threads
pub mod Values
pub mod World
