pub mod Bytes
pub mod Front
pub mod Found
pub mod Only
