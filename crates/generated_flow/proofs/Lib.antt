mod Counting
mod Fetching
mod Few
mod Forms
mod Pieces
