pub mod Uses
pub mod Liveness
