pub mod Outs
pub mod Counts
pub mod Laws
