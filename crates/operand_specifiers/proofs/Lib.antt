pub mod Numbers
pub mod Relations
pub mod Specifiers
