pub mod Calls
pub mod Counted
pub mod Dealt
pub mod Example
pub mod Shares
pub mod Team
