mod Digits
pub mod GeneratedLaws
mod Hexadecimal
mod Lines
mod Listings
