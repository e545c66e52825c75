pub mod Owing
pub mod BookView
pub mod Sound
pub mod Visit
pub mod Rule
pub mod Steps
pub mod Named
pub mod Sharing
