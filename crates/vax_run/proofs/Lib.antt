pub mod Answering
pub mod Bytes
pub mod Standing
pub mod Walked
pub mod Runs
