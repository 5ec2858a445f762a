pub mod Places
pub mod Pieces
pub mod Heads
pub mod OneWord
