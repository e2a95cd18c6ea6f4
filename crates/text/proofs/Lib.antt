pub mod Digits
pub mod Places
pub mod Lines
pub mod Steps
