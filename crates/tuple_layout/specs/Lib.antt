pub mod Places
pub mod Sizes
pub mod Slices
pub mod Schemas
pub mod Tuples
pub mod Faults
pub mod Reading
pub mod StoredRows
