pub mod Lines
pub mod Numbers
pub mod Reading
pub mod Words
pub mod Names
pub mod Values
pub mod Sets
pub mod Items
