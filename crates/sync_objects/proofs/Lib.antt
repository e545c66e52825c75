pub mod Places
pub mod Rising
pub mod Showing
