pub mod Order
pub mod Counts
pub mod Moments
pub mod KeeperRelation
pub mod Layout
pub mod Profile
pub mod Timeline
pub mod Generator
