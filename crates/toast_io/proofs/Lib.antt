pub mod Taken
pub mod Told
mod Answered
mod Pieces
