pub mod Allowed
pub mod Chain
pub mod Links
pub mod Tasks
pub mod View
pub mod Walking
