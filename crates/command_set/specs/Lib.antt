pub mod Logs
pub mod Changes
pub mod Plain
pub mod Replies
pub mod Answers
pub mod Journals
pub mod Orders
pub mod Laws
