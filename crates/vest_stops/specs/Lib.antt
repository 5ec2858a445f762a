pub mod Refusal
pub mod Line
pub mod Status
pub mod Decided
pub mod Files
