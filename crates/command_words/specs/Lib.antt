pub mod Parts
pub mod Forms
pub mod Numbers
pub mod Commands
pub mod App
pub mod Answers
