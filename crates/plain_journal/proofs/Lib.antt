pub mod Rest
pub mod Seats
pub mod SoFar
