pub mod Sound
pub mod First
pub mod Flags
pub mod Counting
pub mod Joined
