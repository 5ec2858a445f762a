mod Building
mod Comes
mod Ended
mod Ending
pub mod ExitWords
mod Filled
pub mod Filling
mod InPlace
pub mod Laid
pub mod Leads
pub mod Mapped
mod Pieces
pub mod Places
mod Shorter
mod Sizes
mod Standing
mod Virtual
