pub mod Deciding
pub mod Members
mod Sizes
pub mod Sooner
pub mod Hinted
