pub mod Reaching
pub mod Walking
pub mod Changing
pub mod Rows
