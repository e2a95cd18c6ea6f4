pub mod Sizes
pub mod OneFlat
