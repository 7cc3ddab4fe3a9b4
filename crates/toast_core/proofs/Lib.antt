pub mod Alike
pub mod Idled
pub mod Parts
pub mod Cut
pub mod Kept
pub mod Results
pub mod Dues
