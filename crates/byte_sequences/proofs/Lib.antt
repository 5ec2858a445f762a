pub mod Operands
pub mod ReadLaws
pub mod ExtendedLaws
pub mod WriteLaws
pub mod ByteWordLaws
pub mod LockLaws
pub mod Encoded
mod Refused
