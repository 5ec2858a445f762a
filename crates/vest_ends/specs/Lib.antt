pub mod Says
pub mod Ends
