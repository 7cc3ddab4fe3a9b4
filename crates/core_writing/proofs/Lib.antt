pub mod Claimers
pub mod Asking
pub mod Given
pub mod Replies
pub mod Made
pub mod Rows
pub mod Begun
