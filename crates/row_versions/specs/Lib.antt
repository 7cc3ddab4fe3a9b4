pub mod Versions
pub mod Keys
pub mod Relations
