pub mod Lowering
pub mod Programs
pub mod Plans
pub mod Rows
pub mod Ends
pub mod Refusal
