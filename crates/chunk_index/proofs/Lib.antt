pub mod Inserted
mod Runs
pub mod Ordered
mod Searches
mod Wants
mod Sound
mod Chains
mod Cuts
mod Changes
mod Added
mod Left
mod Placed
mod Found
mod Nths
pub mod Inserts
pub mod Batches
pub mod Sweeps
pub mod PinFacts
pub mod Splits
pub mod PinnedLeaves
