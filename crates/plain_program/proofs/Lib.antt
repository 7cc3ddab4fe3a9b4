pub mod AllOut
pub mod Least
pub mod Said
pub mod Taken
