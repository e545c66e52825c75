pub mod Answers
pub mod LastStored
pub mod Turns
pub mod Replies
