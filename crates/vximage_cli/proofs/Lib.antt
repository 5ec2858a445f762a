mod Ending
mod Lines
mod Reading
mod Saying
mod Wanting
