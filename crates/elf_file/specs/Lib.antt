pub mod Figures
pub mod Fields
pub mod Header
pub mod Program
pub mod Refusal
pub mod Symbols
pub mod Values
