mod Delivering
mod Ordering
pub mod Outputs
mod Progress
pub mod Spent
pub mod Stored
mod Summing
