pub mod Chunks
pub mod Dealing
pub mod Gatherings
pub mod Meetings
pub mod Sound
pub mod Team
