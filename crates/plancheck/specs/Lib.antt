pub mod Known
pub mod Scans
pub mod Sweeps
