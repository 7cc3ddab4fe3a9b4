pub mod Fronts
pub mod Fields
pub mod Columns
pub mod Loop
pub mod Messages
pub mod Only
pub mod Parts
pub mod Transactions
