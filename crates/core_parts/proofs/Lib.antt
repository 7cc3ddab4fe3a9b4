pub mod Uses
pub mod First
pub mod Taking
pub mod Ending
pub mod Made
pub mod Cells
pub mod Stepping
pub mod Named
