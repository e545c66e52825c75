mod Counting
pub mod Histories
pub mod Storing
pub mod Telling
pub mod Visiting
pub mod Lists
pub mod Seated
pub mod Steps
pub mod Longest
pub mod Others
pub mod Locking
pub mod Answering
pub mod Closing
