pub mod Cells
pub mod Places
pub mod FreeCells
pub mod Entries
pub mod Sweeps
pub mod Laws
pub mod Held
