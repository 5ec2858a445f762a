pub mod Sums
pub mod Beginnings
pub mod Own
pub mod Keeps
pub mod Keeper
pub mod Accesses
pub mod Crossing
