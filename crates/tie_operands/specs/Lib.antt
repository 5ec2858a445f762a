pub mod Replies
pub mod Steps
pub mod Room
pub mod Rest
