pub mod Ids
pub mod Faults
