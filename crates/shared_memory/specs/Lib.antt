pub mod Lists
pub mod Rule
pub mod Steps
pub mod Views
pub mod Passes
pub mod Ways
