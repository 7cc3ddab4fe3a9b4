pub mod Prefixes
pub mod Positions
pub mod Moves
