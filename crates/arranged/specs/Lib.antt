pub mod Sides
pub mod Sizes
pub mod Free
