pub mod Hinted
pub mod Limits
pub mod Versions
pub mod Stages
pub mod Loading
pub mod Translate
pub mod List
