pub mod Sets
pub mod Streams
pub mod Laws
pub mod Ranges
