pub mod Ordered
pub mod Walks
pub mod Least
pub mod AllOut
pub mod Going
pub mod AllLeast
pub mod AllSmall
