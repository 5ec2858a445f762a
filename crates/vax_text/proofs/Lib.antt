pub mod Named
pub mod Powers
pub mod Rows
pub mod Walk
