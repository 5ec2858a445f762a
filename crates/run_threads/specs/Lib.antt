pub mod Programs
pub mod Processors
pub mod Jobs
pub mod Together
pub mod Runs
