pub mod Runs
pub mod Codes
pub mod Entrances
pub mod Promises
pub mod Rules
pub mod Ready
