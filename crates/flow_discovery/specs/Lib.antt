pub mod Flow
pub mod Mapped
pub mod Reach
pub mod Refusal
pub mod Starts
