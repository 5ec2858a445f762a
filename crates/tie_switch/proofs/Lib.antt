pub mod Low
pub mod Masks
pub mod Steps
pub mod Turns
pub mod Handled
pub mod Knowing
pub mod Playing
pub mod Awaited
pub mod Found
pub mod Standing
pub mod Waiting
pub mod Reading
pub mod Unspent
pub mod Inside
pub mod Courses
mod Glides
pub mod Stopping
pub mod ManyTurns
pub mod Advances
pub mod Along
mod Asks
