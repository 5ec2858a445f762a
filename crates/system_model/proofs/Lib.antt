pub mod Lists
pub mod Requests
pub mod Turns
pub mod GoingOn
pub mod Quads
pub mod Neighbours
pub mod Orders
pub mod Rows
mod Sizes
pub mod Interpreted
pub mod Handlers
pub mod Making
mod Refused
