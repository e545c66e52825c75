pub mod Names
pub mod Program
pub mod Serving
pub mod Standing
pub mod Unheard
