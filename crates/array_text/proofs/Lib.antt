pub mod DecimalDigits
pub mod Hexadecimal
