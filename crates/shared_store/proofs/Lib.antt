pub mod Histories
pub mod Ends
pub mod Moves
