pub mod Made
pub mod Words
pub mod Promises
