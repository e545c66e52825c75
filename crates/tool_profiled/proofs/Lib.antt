pub mod Fresh
pub mod Hearing
pub mod Silence
pub mod Standing
pub mod Union
pub mod Waiting
