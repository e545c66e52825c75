pub mod Onward
pub mod Traces
pub mod Endings
