pub mod Counting
pub mod Lookups
pub mod Holding
pub mod Entering
pub mod Showing
