pub mod Plans
pub mod Widths
pub mod Pointers
pub mod Keeping
pub mod Stepping
