pub mod Edits
pub mod Steps
pub mod Named
pub mod Outcomes
pub mod Moments
pub mod Order
pub mod Numbered
