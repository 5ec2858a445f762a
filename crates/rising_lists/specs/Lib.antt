pub mod Rising
pub mod Told
