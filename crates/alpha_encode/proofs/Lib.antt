pub mod Rows
pub mod Reread
pub mod Spelled
pub mod SignedHalves
pub mod FirstOperand
