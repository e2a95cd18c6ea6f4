pub mod Scans
pub mod Chains
pub mod Ordered
pub mod Latest
pub mod Finds
pub mod Links
