pub mod Ends
pub mod Joining
pub mod Registering
pub mod Replies
pub mod Splits
pub mod Stores
