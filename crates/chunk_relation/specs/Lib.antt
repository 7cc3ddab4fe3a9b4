pub mod Chunks
pub mod Relations
