pub mod Faults
pub mod Source
pub mod Sink
pub mod ReadAll
pub mod MemSource
pub mod MemSink
pub mod StdParts
