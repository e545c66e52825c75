pub mod BothStores
pub mod Joined
pub mod Tools
