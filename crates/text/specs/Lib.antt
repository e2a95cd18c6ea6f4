pub mod Steps
pub mod Rest
pub mod Standing
