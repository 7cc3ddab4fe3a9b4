pub mod Orders
pub mod Entries
pub mod Leaves
pub mod Nodes
pub mod Pinned
pub mod Indexes
pub mod Places
