pub mod Explained
pub mod OneHistory
pub mod Kinds
pub mod Entries
pub mod Failures
pub mod Headline
pub mod Law
pub mod OneProcessor
