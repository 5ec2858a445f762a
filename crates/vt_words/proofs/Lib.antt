pub mod Spreads
pub mod Tests
pub mod Laws
pub mod Fields
pub mod Joined
pub mod Shifting
pub mod Extended
pub mod Longwords
