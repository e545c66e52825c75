pub mod Sensible
mod Bare
pub mod Nulls
pub mod States
pub mod Fits
pub mod Arguments
pub mod Released
pub mod Shares
pub mod Told
pub mod Events
pub mod Halts
pub mod Counted
pub mod Heard
pub mod Traces
