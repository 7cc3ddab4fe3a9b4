pub mod Least
pub mod Entries
pub mod Moments
pub mod Horizons
pub mod Unseen
pub mod EarlierEnds
pub mod Unprotected
pub mod Runs
mod Bodies
