pub mod Answering
pub mod Bounds
pub mod Causes
pub mod SameWords
pub mod LastStored
pub mod Replying
pub mod Serial
pub mod Ended
