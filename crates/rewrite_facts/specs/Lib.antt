pub mod Copies
pub mod Rewrites
pub mod Chunks
pub mod Holds
pub mod Left
pub mod Laws
