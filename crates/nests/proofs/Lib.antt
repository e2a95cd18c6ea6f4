pub mod Entries
pub mod Members
pub mod Passed
pub mod WholeNests
