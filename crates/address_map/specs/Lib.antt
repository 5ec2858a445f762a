pub mod Pairs
pub mod Refusal
pub mod Tables
pub mod Sound
