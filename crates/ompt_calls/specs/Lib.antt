pub mod Arguments
pub mod Item
pub mod Line
pub mod Number
pub mod Snapshot
