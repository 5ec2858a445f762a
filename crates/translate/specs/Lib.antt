pub mod Compiled
pub mod Mapped
pub mod Refusal
pub mod Translated
