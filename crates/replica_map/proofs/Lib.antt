pub mod Trees
pub mod Columns
pub mod Moves
pub mod Widths
pub mod Streams
