pub mod Copies
pub mod Takes
pub mod Ends
pub mod Found
pub mod First
pub mod Moments
pub mod Steps
pub mod Later
