pub mod Edges
pub mod Script
pub mod MemSource
pub mod MemSink
pub mod PureSource
pub mod Adapted
