pub mod Held
pub mod Lists
pub mod Parts
pub mod Sizes
pub mod Tables
pub mod Trees
pub mod UsesOfOthers
pub mod Walks
